use Rattle.std.proofs.lemmas.Result.{err_from_is_err_and}
use Rattle.world_text.proofs.Completing.{no_version, gap_due, whole_due}
use Rattle.world_text.proofs.draft.Draft.complete.Goals as goal

pub returns-in_default : goal.returns-in_default
returns-in_default c = rw c.bad.ensures (no_version c.args.self c.in_default.is)

pub returns-in_err-make : goal.returns-in_err-make
returns-in_err-make c =
    let p = err_from_is_err_and c.from_residual.result c.from_residual.ensures.1 in
    rw (p.1, p.2) (gap_due c.args.self c.in-Some.field-0 c.in_err-make.field-0.0 c.in-Some.is c.in_err-make.ensures.gap)

pub returns : goal.returns
returns c =
    let made = c.in_ok-make.ensures in
    whole_due c.args.self c.in-Some.field-0 c.in_ok-make.field-0 c.in-Some.is made.world made.linked made.used
