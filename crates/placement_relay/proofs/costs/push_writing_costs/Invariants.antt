use Rattle.std.proofs.Common.{◌≡◌, ◌++◌, take}
use Rattle.std.specs.List.{flat_map}
use Rattle.workload.specs.World.{members_of}
use Rattle.placement_relay.specs.Relay.{hop_costs}
use Rattle.placement_relay.proofs.costs.push_writing_costs.Given as goal

abbrev pub invariant-loop-member : goal.invariant-loop-member
invariant-loop-member l = l.costs.items ≡ l.initial.costs.items ++ flat_map (hop_costs l.world l.set.0) (take l.member-index (members_of l.world l.set.0))
