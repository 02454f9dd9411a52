use Rattle.std.proofs.Common.{◌≡◌, map, take}
use Rattle.std.specs.List.{filter, flat_map}
use Rattle.zero_one.specs.Rows.{bit_of}
use Rattle.placement_rows.specs.Centres.{centres, numbered_members}
use Rattle.placement_relay.specs.Placed.{chosen_hop}
use Rattle.placement_relay.proofs.decoding.chosen_hops.Given as goal

abbrev pub invariant-loop-a : goal.invariant-loop-a
invariant-loop-a l = l.hops.items ≡ flat_map (λ am. map (chosen_hop l.world l.set.0 l.x am) (filter (bit_of l.x) (centres l.world))) (take l.a (numbered_members l.world l.set.0))
