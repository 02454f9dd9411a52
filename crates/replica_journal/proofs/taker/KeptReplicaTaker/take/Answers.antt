use Rattle.std.proofs.Common.{◌≡◌, ◌+◌, false, Ok, Err, refl, sym, ◌∙◌, ap, subst}
use Rattle.std.proofs.lemmas.Bool.{false≢true}
use Rattle.std.proofs.lemmas.Result.{err_from_is_err_and}
use Rattle.replica_core.specs.declared.journal.TakeFault.TheVariants as take_fault
use Rattle.replica_journal.specs.Journaled.{Journaled}
use Rattle.replica_journal.specs.Taken.{Takes}
use Rattle.replica_journal.proofs.Takings.{still, still_refused, leaves_either}
use Rattle.replica_journal.proofs.Unlogged.{unlogged_stays}
use Rattle.replica_journal.proofs.taker.KeptReplicaTaker.take.Goals as goal

pub returns-in_err-answer-clause-takes : goal.returns-in_err-answer-clause-takes
returns-in_err-answer-clause-takes g c = λ unshut.
    let open_then : c.self.inside.is_shut ≡ false = ap (λ (v : Journaled g.row.D.Denot). v.shut) c.self.view_is ∙ unshut in
    let p = err_from_is_err_and c.from_residual.result c.from_residual.ensures.1 in
    subst (λ (v : Journaled g.row.D.Denot). Takes (g.D.Disk.told c.args.self.now.disk) (g.D.Disk.told v.disk) c.args.self.now.state c.args.message.now c.from_residual.result) (sym c.answer.ensures.stays)
    (subst (λ (v : Journaled g.row.D.Denot). Takes (g.D.Disk.told v.disk) (g.D.Disk.told v.disk) v.state c.args.message.now c.from_residual.result) c.self.view_is
    (still_refused (g.D.Disk.told c.self.inside.disk) c.self.inside.replica c.self.inside.place c.args.message.now c.from_residual.result p.0 p.1 (c.self.invariant.kept open_then)))

pub returns-then-not-is_logged-clause-takes : goal.returns-then-not-is_logged-clause-takes
returns-then-not-is_logged-clause-takes g c = λ unshut.
    let open_then : c.self.inside.is_shut ≡ false = ap (λ (v : Journaled g.row.D.Denot). v.shut) c.self.view_is ∙ unshut in
    let same = unlogged_stays c.self.inside.replica c.args.message.now (λ logged. false≢true (c.if-not-is_logged.ensures.1 logged)) in
    subst (λ (v : Journaled g.row.D.Denot). Takes (g.D.Disk.told c.args.self.now.disk) (g.D.Disk.told v.disk) c.args.self.now.state c.args.message.now (Ok tt)) (sym c.answer.ensures.stays)
    (subst (λ (v : Journaled g.row.D.Denot). Takes (g.D.Disk.told v.disk) (g.D.Disk.told v.disk) v.state c.args.message.now (Ok tt)) c.self.view_is
    (still c.self.inside.replica c.self.inside.place c.args.message.now (Ok tt) same (g.D.Disk.told c.self.inside.disk) (c.self.invariant.kept open_then)))

pub returns-then-bytes-gt-LIMIT-clause-takes : goal.returns-then-bytes-gt-LIMIT-clause-takes
returns-then-bytes-gt-LIMIT-clause-takes g c = λ unshut.
    let open_then : c.self.inside.is_shut ≡ false = ap (λ (v : Journaled g.row.D.Denot). v.shut) c.self.view_is ∙ unshut in
    let bytes = c.size.result + 3 + c.from.result in
    subst (λ (v : Journaled g.row.D.Denot). Takes (g.D.Disk.told v.disk) (g.D.Disk.told v.disk) v.state c.args.message.now (Err (take_fault.Full bytes))) c.self.view_is
    (still_refused (g.D.Disk.told c.self.inside.disk) c.self.inside.replica c.self.inside.place c.args.message.now (Err (take_fault.Full bytes)) (take_fault.Full bytes) refl (c.self.invariant.kept open_then))

pub returns-clause-leaves : goal.returns-clause-leaves
returns-clause-leaves g c = λ failed.
    leaves_either (g.D.Disk.told c.args.self.now.disk) (g.D.Disk.told c.log.new.self.disk) c.args.self.now.state c.args.message.now c.log.result c.log.ensures.takes
