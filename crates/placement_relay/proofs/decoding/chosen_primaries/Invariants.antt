use Rattle.std.proofs.Common.{◌≡◌, map, take}
use Rattle.placement_rows.specs.Centres.{numbered_members}
use Rattle.placement_relay.specs.Placed.{chosen_primary}
use Rattle.placement_relay.proofs.decoding.chosen_primaries.Given as goal

abbrev pub invariant-loop-a : goal.invariant-loop-a
invariant-loop-a l = l.primary ≡ map (chosen_primary l.world l.set.0 l.x) (take l.a (numbered_members l.world l.set.0))
