use Rattle.joint_placement.proofs.JointLaws.{decoding}
use Rattle.joint_placement.proofs.laws.feasible_choices_are_decoded.Goals as goal

pub returns : goal.returns
returns c = λ w fleet complete named. decoding w fleet complete named
