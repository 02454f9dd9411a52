use Rattle.std.proofs.Common.{false, refl}
use Rattle.std.specs.Prelude.{codes}
use Rattle.joint_plan.specs.Lines.{RefusesForm}
use Rattle.joint_plan.proofs.OtherLines.{due_told, other_met}
use Rattle.joint_plan.proofs.frame.read_begin.Goals as goal

pub returns-clause-reads : goal.returns-clause-reads
returns-clause-reads g c files is front first =
    let reader = c.read_due.new.lines in
    let other = due_told files c.args.name.now front (codes "span-joint 1\n") reader c.in_ok-is_due.is_due false c.if-is_due.false (c.in_ok-is_due.ensures.reads files is front first) in
    other_met files c.args.name.now front (codes "span-joint 1\n") reader RefusesForm _ other refl
