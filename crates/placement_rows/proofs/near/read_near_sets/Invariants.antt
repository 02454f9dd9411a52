use Rattle.std.proofs.Common.{◌≡◌, map, take}
use Rattle.workload.specs.World.{members_of}
use Rattle.placement_rows.specs.Centres.{read_near, set_of_centres}
use Rattle.placement_rows.proofs.near.read_near_sets.Given as goal

abbrev pub invariant-loop-member : goal.invariant-loop-member
invariant-loop-member l = l.sets.items ≡ map (λ m. set_of_centres (read_near l.world l.fn.set.0 m)) (take l.member-index (members_of l.world l.fn.set.0))
