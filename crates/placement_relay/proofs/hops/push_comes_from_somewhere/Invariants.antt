use Rattle.std.proofs.Common.{◌≡◌, ◌++◌, map}
use Rattle.std.specs.List.{flat_map, range_with_len}
use Rattle.placement_rows.specs.Centres.{centres}
use Rattle.placement_relay.specs.Relay.{comes_from_somewhere}
use Rattle.placement_relay.proofs.hops.push_comes_from_somewhere.Given as goal

abbrev pub invariant-loop-a : goal.invariant-loop-a
invariant-loop-a l = l.rows.items ≡ l.initial.rows.items ++ flat_map (λ a. map (comes_from_somewhere l.world l.set.0 a) (centres l.world)) (range_with_len 0 l.a)
