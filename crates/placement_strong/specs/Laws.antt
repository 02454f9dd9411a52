-- How the policies of a strong set and the choices of its program stand for one another.
use Rattle.std.specs.Prelude.{◌≡◌, ℕ, ◌<◌, ◌≤◌, Bool, List, length}
use Rattle.span_base.specs.declared.policy.Policy.{Policy}
use Rattle.workload.specs.World.{Lists, IsComplete, rule_of}
use Rattle.slo_rules.specs.Rules.{IsAllowed}
use Rattle.slo_rules.specs.Cost.{policy_cost}
use Rattle.workload.specs.declared.rules.Mode.TheVariants.{Strong}
use Rattle.zero_one.specs.Program.{IsFeasible, value_of}
use Rattle.placement_strong.specs.Programs.{set_program, set_costs}
use Rattle.placement_strong.specs.Placed.{placed, decoded}

-- a set of a complete world is strong
pub record IsStrongSet (w : Lists) (set : ℕ) : Type 0 where
  pub complete : IsComplete w
  pub there : set < length w.sets
  pub mode : (rule_of w set).mode ≡ Strong

-- the choice that a policy is meets the program, and its value is the policy's cost
pub record IsPlaced (w : Lists) (set : ℕ) (q : Policy) : Type 0 where
  pub feasible : IsFeasible (set_program w set) (placed w set q)
  pub value : value_of (set_costs w set) (placed w set q) ≡ policy_cost w set q

-- the policy that a choice is is allowed, and costs at most the choice's value
pub record IsDecoded (w : Lists) (set : ℕ) (x : List Bool) : Type 0 where
  pub allowed : IsAllowed w set (decoded w set x)
  pub cost : policy_cost w set (decoded w set x) ≤ value_of (set_costs w set) x

-- a choice is least for a program: it meets it, and every choice that does has at least its value
pub record IsLeastChoice (w : Lists) (set : ℕ) (x : List Bool) : Type 0 where
  pub feasible : IsFeasible (set_program w set) x
  pub least : (y : List Bool) → IsFeasible (set_program w set) y → value_of (set_costs w set) x ≤ value_of (set_costs w set) y
