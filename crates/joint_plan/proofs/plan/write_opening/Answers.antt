use Rattle.std.proofs.Common.{[], string_bytes}
use Rattle.planner.proofs.Telling.{told_line}
use Rattle.joint_plan.specs.JointText.{opening_text}
use Rattle.joint_plan.proofs.plan.write_opening.Goals as goal

pub returns-clause-tells : goal.returns-clause-tells
returns-clause-tells g c from said =
    told_line from _ _ [] (opening_text c.args.variables) (string_bytes c.new-text.result) (string_bytes c.push_opening.new.text) c.deref.result.now _ c.new-text.ensures.bytes c.in_ok-push_opening.ensures c.deref.ensures (c.put_text.ensures.tells from [] said)
