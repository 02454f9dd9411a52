-- Joint plans as choices of the joint program, and back.
use Rattle.std.specs.Prelude.{ℕ, ◌+◌, ◌^◌, ◌==◌, if◌then◌else◌, Bool, List, ◌++◌, map, take, drop, sum_by}
use Rattle.std.specs.Int.{bit_at}
use Rattle.std.specs.List.{flat_map}
use Rattle.zero_one.specs.Rows.{bit_of}
use Rattle.workload.specs.World.{Lists}
use Rattle.placement_rows.specs.Centres.{centres}
use Rattle.placement.specs.Placement as set_policy
use Rattle.machine_text.specs.declared.machines.Machine.{Machine}
use Rattle.machine_text.specs.Machines.{Fleet, machine_of}
use Rattle.joint_placement.specs.JointPlans.{JointPlan, sets, policy_of, machines_in}
use Rattle.joint_placement.specs.Variables.{variables_of, first_of, first_digit, places}

-- the digit of a number at a place
abbrev pub digit_of : ℕ → ℕ → Bool
digit_of number j = bit_at number j == 1

-- the choice that a plan is: its policies, and the digits of the numbers of machines
unfoldable pub placed : Lists → Fleet → JointPlan → List Bool
placed w fleet plan =
    flat_map (λ set. set_policy.placed w set (policy_of plan set)) (sets w)
    ++ flat_map (λ d. map (digit_of (machines_in plan d)) (places (machine_of fleet d))) (centres w)

-- the part of a choice that is a set's
unfoldable pub part_of : Lists → List Bool → ℕ → List Bool
part_of w x set = take (variables_of w set) (drop (first_of w set) x)

-- the number of which a choice has the digits from a variable on
unfoldable pub number_at : List Bool → ℕ → Machine → ℕ
number_at x first machine = sum_by (λ j. if bit_of x (first + j) then 2 ^ j else 0) (places machine)

-- the plan that a choice is
unfoldable pub decoded : Lists → Fleet → List Bool → JointPlan
decoded w fleet x = record {
  policies = map (λ set. set_policy.decoded w set (part_of w x set)) (sets w);
  machines = map (λ d. number_at x (first_digit w fleet d) (machine_of fleet d)) (centres w);
}
