use Rattle.std.proofs.Common.{◌≡◌, ◌++◌, map}
use Rattle.std.specs.List.{filter, range_with_len}
use Rattle.zero_one.specs.Rows.{bit_of}
use Rattle.placement_relay.specs.Placed.{chosen_hop}
use Rattle.placement_relay.proofs.decoding.push_chosen_hops.Given as goal

abbrev pub invariant-loop-d : goal.invariant-loop-d
invariant-loop-d l = l.hops.items ≡ l.initial.hops.items ++ map (chosen_hop l.world l.set.0 l.x (l.a, l.member)) (filter (bit_of l.x) (range_with_len 0 l.d))
