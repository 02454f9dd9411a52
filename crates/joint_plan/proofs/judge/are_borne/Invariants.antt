use Rattle.std.proofs.Common.{ℕ, ◌<◌}
use Rattle.joint_plan.specs.Stops.{IsBorne}
use Rattle.joint_plan.proofs.judge.are_borne.Given as goal

abbrev pub invariant-loop-d : goal.invariant-loop-d
invariant-loop-d l = (e : ℕ) → e < l.d → IsBorne l.world l.machines l.plan e
