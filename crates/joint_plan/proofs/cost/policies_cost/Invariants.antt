use Rattle.std.proofs.Common.{◌≡◌}
use Rattle.std.specs.List.{sum_by, range_with_len}
use Rattle.slo_rules.specs.Cost.{policy_cost}
use Rattle.joint_placement.specs.JointPlans.{policy_of}
use Rattle.joint_plan.proofs.cost.policies_cost.Given as goal

abbrev pub invariant-loop-set : goal.invariant-loop-set
invariant-loop-set l = l.total ≡ sum_by (λ set. policy_cost l.world set (policy_of l.plan set)) (range_with_len 0 l.set)
