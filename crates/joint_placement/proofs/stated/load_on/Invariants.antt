use Rattle.std.proofs.Common.{◌≡◌, ◌*◌, ◌^◌, ◌≤◌}
use Rattle.std.specs.List.{sum_by, range_with_len}
use Rattle.joint_placement.specs.Loads.{policy_load}
use Rattle.joint_placement.specs.JointPlans.{policy_of}
use Rattle.joint_placement.proofs.stated.load_on.Given as goal

abbrev pub invariant-loop-set : goal.invariant-loop-set
invariant-loop-set l =
    (l.total ≡ sum_by (λ set. policy_load l.world l.unit l.dc.0 set (policy_of l.plan set)) (range_with_len 0 l.set)) × (l.total ≤ l.set * (6 * 10 ^ 10))
