use Rattle.std.specs.Prelude.{◌≡◌, ℕ, ◌+◌, ◌^◌, ◌<◌, ◌≤◌, Bool, true, false, List, [], ◌∷◌, length, All}
use Rattle.zero_one.specs.Contents.{Contents}
use Rattle.zero_one.specs.Rows.{Meets, KnowsItsVars, HasRisingVars, weight_of}

-- the costs of the variables that are 1, added up
abbrev pub value_of : List ℕ → List Bool → ℕ
value_of [] x = 0
value_of (cost ∷ costs) [] = 0
value_of (cost ∷ costs) (true ∷ x) = cost + value_of costs x
value_of (cost ∷ costs) (false ∷ x) = value_of costs x

-- the assignment has a bit for each variable and meets each row
pub record IsFeasible (program : Contents) (x : List Bool) : Type 0 where
  pub bits : length x ≡ length program.costs
  pub met : All (Meets x) program.rows

-- the program keeps the limits: small costs, rows in order over its own variables, and not too many of anything
pub record IsWithinLimits (program : Contents) : Type 0 where
  pub costs : All (λ cost. cost < 10 ^ 24) program.costs
  pub known : All (KnowsItsVars (length program.costs)) program.rows
  pub rising : All HasRisingVars program.rows
  pub variables : length program.costs ≤ 4096
  pub row_count : length program.rows ≤ 16384
  pub weight : weight_of program.rows ≤ 10 ^ 7
