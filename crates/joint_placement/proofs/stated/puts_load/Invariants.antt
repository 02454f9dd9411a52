use Rattle.std.proofs.Common.{◌≡◌, ◌*◌, ◌^◌, ◌≤◌, take}
use Rattle.std.specs.List.{sum_by}
use Rattle.joint_placement.specs.Loads.{put_load}
use Rattle.joint_placement.proofs.stated.puts_load.Given as goal

abbrev pub invariant-loop-m : goal.invariant-loop-m
invariant-loop-m l =
    (l.total ≡ sum_by (put_load l.unit l.dc.0 l.replicas) (take l.m-index l.members)) × (l.total ≤ l.m-index * (2 * 10 ^ 9))
