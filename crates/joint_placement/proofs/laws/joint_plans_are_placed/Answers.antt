use Rattle.joint_placement.proofs.JointLaws.{placing}
use Rattle.joint_placement.proofs.laws.joint_plans_are_placed.Goals as goal

pub returns : goal.returns
returns c = λ w fleet complete named. placing w fleet complete named
