use Rattle.std.proofs.Common.{false, refl, inl}
use Rattle.std.specs.Prelude.{codes}
use Rattle.joint_plan.specs.Lines.{RefusesForm}
use Rattle.joint_plan.proofs.OtherLines.{due_told, other_met}
use Rattle.joint_plan.proofs.frame.read_last.Goals as goal

pub returns-clause-reads : goal.returns-clause-reads
returns-clause-reads g c files is front first =
    let reader = c.read_due.new.lines in
    let other = due_told files c.args.name.now front (codes "end\n") reader c.in_ok-is_due.is_due false c.if-is_due.false (c.in_ok-is_due.ensures.reads files is front first) in
    inl (other_met files c.args.name.now front (codes "end\n") reader RefusesForm _ other refl)
