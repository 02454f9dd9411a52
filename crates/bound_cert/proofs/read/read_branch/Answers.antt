use Rattle.std.proofs.Common.{refl}
use Rattle.std.proofs.lemmas.Result.{err_from_is_err_and}
use Rattle.bound_cert.proofs.Fronts.{var}
use Rattle.bound_cert.proofs.Lines.{branch_begins, number_found, number_refused, branch_longer, branch_whole}
use Rattle.bound_cert.proofs.read.read_branch.Goals as goal

pub returns-in_err-var : goal.returns-in_err-var
returns-in_err-var c =
    let p = err_from_is_err_and c.from_residual.result c.from_residual.ensures.1 in
    let no = number_refused c.args.text.now 2 var 65535 _ (branch_begins c.args.text.now c.requires) refl c.in_err-var.ensures in
    rw (p.1, p.2) (record { reads = no.reads; ranges = tt; memory = no.memory })

pub returns-then-var-text-clause-reads : goal.returns-then-var-text-clause-reads
returns-then-var-text-clause-reads c =
    let here = number_found c.args.text.now 2 var 65535 c.in_ok-var.var (branch_begins c.args.text.now c.requires) refl c.in_ok-var.ensures in
    branch_longer c.args.text.now c.in_ok-var.var.end c.in_ok-var.var.value here c.if-var-text.true

pub returns-clause-reads : goal.returns-clause-reads
returns-clause-reads c =
    let here = number_found c.args.text.now 2 var 65535 c.in_ok-var.var (branch_begins c.args.text.now c.requires) refl c.in_ok-var.ensures in
    (branch_whole c.args.text.now c.in_ok-var.var.end c.in_ok-var.var.value here c.if-var-text.false, tt)
