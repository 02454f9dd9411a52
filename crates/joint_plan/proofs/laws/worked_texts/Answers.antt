use Rattle.std.proofs.Common.{refl}
use Rattle.std.specs.Fmt.{digits}
use Rattle.span_base.specs.DcSet.{centres_of, centres_below}
use Rattle.placement_relay.specs.Programs.{set_program}
use Rattle.joint_placement.specs.Programs.{joint_program}
use Rattle.joint_placement.specs.Variables.{joint_costs}
use Rattle.joint_plan.specs.JointText.{joint_line, machines_line, plan_text}
use Rattle.joint_plan.proofs.laws.worked_texts.Goals as goal

pub returns-clause-begun : goal.returns-clause-begun
unfolding joint_line joint_program joint_costs set_program digits
returns-clause-begun c = refl

pub returns-clause-in_x : goal.returns-clause-in_x
unfolding plan_text machines_line centres_of centres_below digits
returns-clause-in_x c = refl
