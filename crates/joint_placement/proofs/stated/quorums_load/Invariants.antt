use Rattle.std.proofs.Common.{◌≡◌, ◌+◌, ◌*◌, ◌^◌, ◌≤◌, length, drop, zip}
use Rattle.std.specs.List.{sum_by}
use Rattle.joint_placement.specs.Loads.{quorum_load}
use Rattle.joint_placement.proofs.stated.quorums_load.Given as goal

abbrev pub invariant-loop-m : goal.invariant-loop-m
invariant-loop-m l =
    (l.total + sum_by (λ pair. quorum_load l.unit l.dc.0 pair.0 pair.1) (zip (drop (length l.yielded) l.members) (drop (length l.yielded) l.quorums)) ≡ sum_by (λ pair. quorum_load l.unit l.dc.0 pair.0 pair.1) (zip l.members l.quorums))
    × (l.total ≤ length l.yielded * (6 * 10 ^ 9))
