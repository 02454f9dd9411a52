use Rattle.std.proofs.Common.{◌≡◌, ◌≢◌, ◌<◌, length, slice_index, arith, rules}
use Rattle.std.proofs.lemmas.Result.{err_from_is_err_and}
use Rattle.bound_cert.proofs.Lines.{branch_refused, leaf_refused, none_begins}
use Rattle.bound_cert.proofs.read.read_line.Goals.{in_default-via-then-text-lt1, in_default-via-else-text-lt1+in_default-1}
use Rattle.bound_cert.proofs.read.read_line.Goals as goal

pub returns-in_err-pass-in-98-clause-reads : goal.returns-in_err-pass-in-98-clause-reads
returns-in_err-pass-in-98-clause-reads c =
    let text = c.args.text.now in
    let p = err_from_is_err_and c.from_residual.result c.from_residual.ensures.1 in
    let first : slice_index text 0 ≡ 98 = search rules in
    let no = branch_refused text _ c.in-98.len_at_least first c.in_err-pass-in-98.ensures in
    rw (p.1, p.2) no.reads

pub returns-in_err-pass-in-108-clause-reads : goal.returns-in_err-pass-in-108-clause-reads
returns-in_err-pass-in-108-clause-reads c =
    let text = c.args.text.now in
    let p = err_from_is_err_and c.from_residual-in_err-pass-in-108.result c.from_residual-in_err-pass-in-108.ensures.1 in
    let first : slice_index text 0 ≡ 108 = search rules in
    let no = leaf_refused text _ c.in-108.len_at_least first c.in_err-pass-in-108.ensures in
    rw (p.1, p.2) no.reads

pub returns-in_default-clause-reads : goal.returns-in_default-clause-reads
returns-in_default-clause-reads c =
    let text = c.args.text.now in
    none_begins text (elim c.in_default.branch [
      | in_default-via-then-text-lt1 w ↦ λ some. absurd (let short : length text < 1 = search rules in omega arith)
      | in_default-via-else-text-lt1+in_default-1 w ↦ λ some. (
          let no_branch : slice_index text 0 ≢ 98 = search rules in
          let no_leaf : slice_index text 0 ≢ 108 = search rules in
          (no_branch, no_leaf))
    ])
