-- The variables of a joint program: those of each set's program, one set after the other, and then
-- for each centre one for each binary digit of the number of its machines, the least digit first.
use Rattle.std.specs.Prelude.{ℕ, ◌+◌, ◌*◌, ◌^◌, List, ◌++◌, length, map, sum_by}
use Rattle.std.specs.List.{flat_map, range_with_len}
use Rattle.workload.specs.World.{Lists}
use Rattle.placement.specs.Placement.{program_of}
use Rattle.placement_rows.specs.Centres.{centres}
use Rattle.machine_text.specs.declared.machines.Machine.{Machine}
use Rattle.machine_text.specs.Machines.{Fleet, machine_of}
use Rattle.joint_placement.specs.JointPlans.{sets}

-- how many variables a set has, and the first of them
unfoldable pub variables_of : Lists → ℕ → ℕ
variables_of w set = length (program_of w set).costs

unfoldable pub first_of : Lists → ℕ → ℕ
first_of w set = sum_by (variables_of w) (range_with_len 0 set)

-- the places of the digits of a number of machines
abbrev pub places : Machine → List ℕ
places machine = range_with_len 0 machine.digits

-- the first of the variables of a centre's digits
unfoldable pub first_digit : Lists → Fleet → ℕ → ℕ
first_digit w fleet d = first_of w (length w.sets) + sum_by (λ e. (machine_of fleet e).digits) (range_with_len 0 d)

-- what the digits cost: each stands for so many machines
abbrev pub digit_costs : Machine → List ℕ
digit_costs machine = map (λ j. 2 ^ j * machine.price) (places machine)

-- the costs of all variables
unfoldable pub joint_costs : Lists → Fleet → List ℕ
joint_costs w fleet =
    flat_map (λ set. (program_of w set).costs) (sets w) ++ flat_map (λ d. digit_costs (machine_of fleet d)) (centres w)
