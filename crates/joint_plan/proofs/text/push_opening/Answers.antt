use Rattle.std.proofs.Common.{string_bytes}
use Rattle.std.specs.Prelude.{codes}
use Rattle.std.proofs.lemmas.Result.{on_ok_weaker}
use Rattle.joint_plan.specs.JointText.{joint_line}
use Rattle.joint_plan.proofs.Texts.{two_pieces}
use Rattle.joint_plan.proofs.text.push_opening.Goals as goal

pub returns : goal.returns
returns c =
    on_ok_weaker c.push_joint.result
    (two_pieces (string_bytes c.args.text.now) (string_bytes c.write.new.self) (string_bytes c.push_joint.new.text) (codes "span-joint 1\n") (joint_line c.args.variables) c.in_ok-write.ensures.bytes)
    c.push_joint.ensures
