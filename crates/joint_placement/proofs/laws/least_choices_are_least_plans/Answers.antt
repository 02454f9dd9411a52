use Rattle.joint_placement.proofs.JointLaws.{least}
use Rattle.joint_placement.proofs.laws.least_choices_are_least_plans.Goals as goal

pub returns : goal.returns
returns c = λ w fleet complete named. least w fleet complete named
