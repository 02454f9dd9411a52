-- The best assignment so far, and the goal that it sets.
use Rattle.std.specs.Prelude.{◌≡◌, ℕ, ◌≤◌, Bool, List, Option, Some, None}
use Rattle.zero_one.specs.Contents.{Contents}
use Rattle.zero_one.specs.Program.{value_of, IsFeasible}
use Rattle.bound_cert.specs.declared.leaves.Goal.{Goal}
use Rattle.bound_cert.specs.declared.leaves.Goal.TheVariants.{Cost, Nothing}

-- an assignment and its value
pub record Best : Type 0 where
  pub x : List Bool
  pub value : ℕ

-- the best assignment, and how many variables it has bits for
pub record Held : Type 0 where
  pub variables : ℕ
  pub best : Option Best

-- there is none, or it is feasible and this is its value
abbrev pub IsBest : Contents → Option Best → Type 0
IsBest program None = Unit {0}
IsBest program (Some best) = IsFeasible program best.x × (best.value ≡ value_of program.costs best.x)

-- what is to be shown: that no assignment is cheaper, and where there is none that none is feasible
abbrev pub goal_of : Option Best → Goal
goal_of None = Nothing
goal_of (Some best) = Cost best.value

-- the best assignment became no worse: once there is one there always is one, and its value doesn't rise
abbrev pub IsNoWorse : Option Best → Option Best → Type 0
IsNoWorse None after = Unit {0}
IsNoWorse (Some before) None = ⊥
IsNoWorse (Some before) (Some after) = after.value ≤ before.value

-- the best assignment is at least as good as this value
abbrev pub IsAtMost : Option Best → ℕ → Type 0
IsAtMost None value = ⊥
IsAtMost (Some best) value = best.value ≤ value

-- the assignment is the best now, and better than the one before
pub record IsTaken (program : Contents) (before : Held) (x : List Bool) (after : Held) : Type 0 where
  pub held : after ≡ record { variables = before.variables; best = Some (record { x = x; value = value_of program.costs x }) }
  pub better : IsNoWorse before.best after.best
