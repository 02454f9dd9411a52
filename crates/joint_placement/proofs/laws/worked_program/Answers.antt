use Rattle.std.proofs.Common.{refl}
use Rattle.placement_relay.specs.Programs.{set_program}
use Rattle.placement_relay.specs.Placed as set_policy
use Rattle.joint_placement.specs.Variables.{variables_of, first_of, first_digit, joint_costs}
use Rattle.joint_placement.specs.Capacity.{set_loads, joint_loads, capacity_row}
use Rattle.joint_placement.specs.Programs.{joint_rows, joint_program}
use Rattle.joint_placement.specs.Placed.{placed, part_of, number_at, decoded}
use Rattle.joint_placement.proofs.laws.worked_program.Goals as goal

pub returns-clause-program : goal.returns-clause-program
unfolding joint_program joint_costs joint_rows capacity_row joint_loads set_loads first_digit first_of variables_of set_program
returns-clause-program c = refl

pub returns-clause-placed : goal.returns-clause-placed
unfolding placed set_policy.placed
returns-clause-placed c = refl

pub returns-clause-decoded : goal.returns-clause-decoded
unfolding decoded part_of number_at first_digit first_of variables_of set_program set_policy.decoded
returns-clause-decoded c = refl

pub returns-clause-value : goal.returns-clause-value
returns-clause-value c = refl
