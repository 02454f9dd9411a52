-- Machines for the world of two centres, its joint plans, and its joint program written out.
use Rattle.std.specs.Prelude.{ℕ, pos, neg_ℤ, Bool, true, false, List, [], ◌∷◌}
use Rattle.zero_one.specs.Contents.{Contents}
use Rattle.zero_one.specs.declared.rows.Entry.{Entry}
use Rattle.zero_one.specs.declared.rows.Row.{Row}
use Rattle.slo_rules.specs.Examples.{at}
use Rattle.placement_rows.specs.Rows.{plus, minus}
use Rattle.machine_text.specs.declared.machines.Machine.{Machine}
use Rattle.machine_text.specs.Machines.{Fleet}
use Rattle.joint_placement.specs.JointPlans.{JointPlan}

abbrev pub machine : ℕ → ℕ → ℕ → Machine
machine price capacity digits = record { price = price; capacity = capacity; digits = digits }

-- cheap machines in `x` and dear ones in `y`, of which each bears all requests
abbrev pub large_machines : Fleet
large_machines = record { unit = 1; each = machine 100 20 3 ∷ machine 1000 20 3 ∷ [] }

-- the same where so many requests make one unit of load
abbrev pub in_units : ℕ → Fleet
in_units unit = record large_machines { unit = unit }

-- one small machine in `x`, and one that bears so much in `y`
abbrev pub small_machines : ℕ → Fleet
small_machines capacity = record { unit = 1; each = machine 100 7 1 ∷ machine 1000 capacity 1 ∷ [] }

-- one replica and one machine, in `x` and in `y`
abbrev pub all_in_x : JointPlan
all_in_x = record { policies = at 0 ∷ []; machines = 1 ∷ 0 ∷ [] }

abbrev pub all_in_y : JointPlan
all_in_y = record { policies = at 1 ∷ []; machines = 0 ∷ 1 ∷ [] }

-- an entry that counts so much, and one that takes so much away
abbrev pub more : ℕ → ℕ → Entry
more var count = record { var = var; coef = pos count }

abbrev pub less : ℕ → ℕ → Entry
less var count = record { var = var; coef = neg_ℤ (pos count) }

abbrev pub row : List Entry → ℕ → Row
row entries bound = record { entries = entries; bound = pos bound }

-- the joint program: variables 0 and 1 are the replicas, 2 and 3 where the member reads, 4 to 6 the
-- digits of the machines in `x`, and 7 to 9 those in `y`
abbrev pub program_of_large : Contents
program_of_large = record {
  costs = 1028 ∷ 152 ∷ 50 ∷ 110 ∷ 100 ∷ 200 ∷ 400 ∷ 1000 ∷ 2000 ∷ 4000 ∷ [];
  rows = row (plus 2 ∷ plus 3 ∷ []) 1
      ∷ row (plus 0 ∷ minus 2 ∷ []) 0 ∷ row (plus 1 ∷ minus 3 ∷ []) 0
      ∷ row (plus 0 ∷ plus 1 ∷ []) 1
      ∷ row (plus 0 ∷ plus 1 ∷ []) 1
      ∷ row (less 0 4 ∷ less 2 10 ∷ more 4 20 ∷ more 5 40 ∷ more 6 80 ∷ []) 0
      ∷ row (less 1 4 ∷ less 3 10 ∷ more 7 20 ∷ more 8 40 ∷ more 9 80 ∷ []) 0 ∷ [];
}

-- the choice of one replica and one machine in `x`
abbrev pub choice_of_x : List Bool
choice_of_x = true ∷ false ∷ true ∷ false ∷ true ∷ false ∷ false ∷ false ∷ false ∷ false ∷ []
