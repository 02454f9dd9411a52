-- The parts of a plan.
use Rattle.std.specs.Prelude.{ℕ, List, Bool, true, false, Option}
use Rattle.span_base.specs.declared.policy.Policy.{Policy}
use Rattle.bound_cert.specs.declared.leaves.Line.{Line}

-- a policy and what it costs
pub record Priced : Type 0 where
  pub cost : ℕ
  pub policy : Policy

-- how the part of a set ends: with its policy and the cost; because no policy is allowed; or cut off
-- at a number of lines, with the best policy found so far, if there is one
pub data Ending : Type 0 where
  complete : ℕ → Policy → Ending
  none_allowed : Ending
  cut_off : Option Priced → Ending

-- the part of a set in a plan: the lines of its tree, and how it ends
pub record Part : Type 0 where
  pub lines : List Line
  pub ending : Ending

-- an ending gives the policy of least cost
abbrev pub completes : Ending → Bool
completes (complete cost policy) = true
completes none_allowed = false
completes (cut_off found) = false

-- an ending is that of a search cut off
abbrev pub is_cut : Ending → Bool
is_cut (complete cost policy) = false
is_cut none_allowed = false
is_cut (cut_off found) = true
