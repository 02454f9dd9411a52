-- A joint plan: a policy for each set of a world, and whole machines in each centre that bear what
-- all sets load on it.
use Rattle.std.specs.Prelude.{◌≡◌, ℕ, ◌+◌, ◌*◌, ◌^◌, ◌<◌, ◌≤◌, List, [], length, sum_by, slice_index_or}
use Rattle.std.specs.List.{range_with_len}
use Rattle.span_base.specs.DcSet.{no_centre as no_dc}
use Rattle.span_base.specs.declared.policy.Policy.{Policy}
use Rattle.span_base.specs.declared.policy.Policy.TheVariants.{Direct}
use Rattle.workload.specs.World.{Lists, centre_count}
use Rattle.slo_rules.specs.Rules.{IsAllowed}
use Rattle.slo_rules.specs.Cost.{policy_cost}
use Rattle.placement_rows.specs.Centres.{centres}
use Rattle.machine_text.specs.Machines.{Fleet, machine_of}
use Rattle.joint_placement.specs.Loads.{policy_load}

-- the policy of each set, and how many machines each centre has
pub record JointPlan : Type 0 where
  pub policies : List Policy
  pub machines : List ℕ

-- the numbers of the sets
abbrev pub sets : Lists → List ℕ
sets w = range_with_len 0 (length w.sets)

-- what a place past the last policy stands for
abbrev pub no_policy : Policy
no_policy = Direct 0 no_dc []

-- the policy of a set, and how many machines a centre has
abbrev pub policy_of : JointPlan → ℕ → Policy
policy_of plan set = slice_index_or plan.policies set no_policy

abbrev pub machines_in : JointPlan → ℕ → ℕ
machines_in plan d = slice_index_or plan.machines d 0

-- what all sets load on a centre
abbrev pub load_on : Lists → Fleet → JointPlan → ℕ → ℕ
load_on w fleet plan d = sum_by (λ set. policy_load w fleet.unit d set (policy_of plan set)) (sets w)

-- a plan has an allowed policy for each set, and no more machines in a centre than their number has
-- digits for
pub record IsJointPlan (w : Lists) (fleet : Fleet) (plan : JointPlan) : Type 0 where
  pub policies : length plan.policies ≡ length w.sets
  pub machines : length plan.machines ≡ centre_count w
  pub allowed : (set : ℕ) → set < length w.sets → IsAllowed w set (policy_of plan set)
  pub few : (d : ℕ) → d < centre_count w → machines_in plan d < 2 ^ (machine_of fleet d).digits

-- the machines of each centre bear its load
abbrev pub MeetsCapacity : Lists → Fleet → JointPlan → Type 0
MeetsCapacity w fleet plan = (d : ℕ) → d < centre_count w → load_on w fleet plan d ≤ machines_in plan d * (machine_of fleet d).capacity

-- what a plan costs: its policies and its machines
unfoldable pub joint_cost : Lists → Fleet → JointPlan → ℕ
joint_cost w fleet plan =
    sum_by (λ set. policy_cost w set (policy_of plan set)) (sets w) + sum_by (λ d. machines_in plan d * (machine_of fleet d).price) (centres w)

-- a plan is least: it meets capacity, and each plan that does costs at least as much
pub record IsLeastJoint (w : Lists) (fleet : Fleet) (plan : JointPlan) : Type 0 where
  pub joint : IsJointPlan w fleet plan
  pub capacity : MeetsCapacity w fleet plan
  pub least : (other : JointPlan) → IsJointPlan w fleet other → MeetsCapacity w fleet other → joint_cost w fleet plan ≤ joint_cost w fleet other

-- no plan meets capacity
abbrev pub HasNoJointPlan : Lists → Fleet → Type 0
HasNoJointPlan w fleet = (plan : JointPlan) → IsJointPlan w fleet plan → ¬ (MeetsCapacity w fleet plan)
