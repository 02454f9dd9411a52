use Rattle.joint_placement.proofs.JointLaws.{none}
use Rattle.joint_placement.proofs.laws.no_choice_is_no_plan.Goals as goal

pub returns : goal.returns
returns c = λ w fleet complete named. none w fleet complete named
