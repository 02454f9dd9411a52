use Rattle.std.proofs.Common.{◌≡◌, ◌*◌, ◌^◌, ◌≤◌, take}
use Rattle.std.specs.List.{sum_by}
use Rattle.workload.specs.World.{members_of}
use Rattle.joint_placement.specs.Loads.{units}
use Rattle.joint_placement.proofs.loads.puts_load.Given as goal

abbrev pub invariant-loop-member : goal.invariant-loop-member
invariant-loop-member l =
    (l.load ≡ sum_by (λ m. units l.unit m.puts) (take l.member-index (members_of l.world l.fn.set.0))) × (l.load ≤ l.member-index * (2 * 10 ^ 9))
