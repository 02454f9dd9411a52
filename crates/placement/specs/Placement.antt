-- The 0-1 program of a set by its own mode, and how the set's policies and the choices of its program
-- stand for one another.
use Rattle.std.specs.Prelude.{◌≡◌, ℕ, ◌<◌, ◌≤◌, Bool, List, length}
use Rattle.span_base.specs.declared.policy.Policy.{Policy}
use Rattle.workload.specs.World.{Lists, IsComplete, IsNamed, rule_of}
use Rattle.workload.specs.declared.rules.Mode.{Mode}
use Rattle.workload.specs.declared.rules.Mode.TheVariants.{Direct, Relay, Strong}
use Rattle.zero_one.specs.Contents.{Contents}
use Rattle.zero_one.specs.Program.{IsFeasible, value_of}
use Rattle.slo_rules.specs.Rules.{IsAllowed}
use Rattle.slo_rules.specs.Cost.{policy_cost}
use Rattle.placement_relay.specs.Programs as relay
use Rattle.placement_relay.specs.Placed as relay_policy
use Rattle.placement_strong.specs.Programs as strong
use Rattle.placement_strong.specs.Placed as strong_policy

-- a set of a complete and named world
pub record IsSet (w : Lists) (set : ℕ) : Type 0 where
  pub complete : IsComplete w
  pub named : IsNamed w
  pub there : set < length w.sets

abbrev pub program_by : Mode → Lists → ℕ → Contents
program_by Direct w set = relay.set_program w set
program_by Relay w set = relay.set_program w set
program_by Strong w set = strong.set_program w set

-- the 0-1 program of a set
abbrev pub program_of : Lists → ℕ → Contents
program_of w set = program_by (rule_of w set).mode w set

abbrev pub placed_by : Mode → Lists → ℕ → Policy → List Bool
placed_by Direct w set q = relay_policy.placed w set q
placed_by Relay w set q = relay_policy.placed w set q
placed_by Strong w set q = strong_policy.placed w set q

-- the choice that a policy is
abbrev pub placed : Lists → ℕ → Policy → List Bool
placed w set q = placed_by (rule_of w set).mode w set q

abbrev pub decoded_by : Mode → Lists → ℕ → List Bool → Policy
decoded_by Direct w set x = relay_policy.decoded w set x
decoded_by Relay w set x = relay_policy.decoded w set x
decoded_by Strong w set x = strong_policy.decoded w set x

-- the policy that a choice is
abbrev pub decoded : Lists → ℕ → List Bool → Policy
decoded w set x = decoded_by (rule_of w set).mode w set x

-- the choice that a policy is meets the program, and its value is the policy's cost
pub record IsPlaced (w : Lists) (set : ℕ) (q : Policy) : Type 0 where
  pub feasible : IsFeasible (program_of w set) (placed w set q)
  pub value : value_of (program_of w set).costs (placed w set q) ≡ policy_cost w set q

-- the policy that a choice is is allowed, and costs at most the choice's value
pub record IsDecoded (w : Lists) (set : ℕ) (x : List Bool) : Type 0 where
  pub allowed : IsAllowed w set (decoded w set x)
  pub cost : policy_cost w set (decoded w set x) ≤ value_of (program_of w set).costs x

-- a choice is least for a program: it meets it, and every choice that does has at least its value
pub record IsLeastChoice (w : Lists) (set : ℕ) (x : List Bool) : Type 0 where
  pub feasible : IsFeasible (program_of w set) x
  pub least : (y : List Bool) → IsFeasible (program_of w set) y → value_of (program_of w set).costs x ≤ value_of (program_of w set).costs y
