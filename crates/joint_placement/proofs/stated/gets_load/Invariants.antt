use Rattle.std.proofs.Common.{◌≡◌, ◌+◌, ◌*◌, ◌^◌, ◌≤◌, length, drop, zip}
use Rattle.std.specs.List.{sum_by}
use Rattle.joint_placement.specs.Loads.{get_load}
use Rattle.joint_placement.proofs.stated.gets_load.Given as goal

abbrev pub invariant-loop-m : goal.invariant-loop-m
invariant-loop-m l =
    (l.total + sum_by (λ pair. get_load l.unit l.dc.0 pair.0 pair.1) (zip (drop (length l.yielded) l.members) (drop (length l.yielded) l.primary)) ≡ sum_by (λ pair. get_load l.unit l.dc.0 pair.0 pair.1) (zip l.members l.primary))
    × (l.total ≤ length l.yielded * (2 * 10 ^ 9))
