use Rattle.std.proofs.Common.{ℕ, ◌<◌}
use Rattle.slo_rules.specs.Rules.{IsAllowed}
use Rattle.joint_placement.specs.JointPlans.{policy_of}
use Rattle.joint_plan.proofs.judge.are_allowed.Given as goal

abbrev pub invariant-loop-set : goal.invariant-loop-set
invariant-loop-set l = (s : ℕ) → s < l.set → IsAllowed l.world s (policy_of l.plan s)
