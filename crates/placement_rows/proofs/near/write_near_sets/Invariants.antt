use Rattle.std.proofs.Common.{◌≡◌, map, take}
use Rattle.workload.specs.World.{members_of}
use Rattle.placement_rows.specs.Centres.{write_near, set_of_centres}
use Rattle.placement_rows.proofs.near.write_near_sets.Given as goal

abbrev pub invariant-loop-member : goal.invariant-loop-member
invariant-loop-member l = l.sets.items ≡ map (λ m. set_of_centres (write_near l.world l.fn.set.0 m)) (take l.member-index (members_of l.world l.fn.set.0))
