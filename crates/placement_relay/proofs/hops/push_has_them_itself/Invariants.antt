use Rattle.std.proofs.Common.{◌≡◌, ◌++◌, map}
use Rattle.std.specs.List.{flat_map, range_with_len}
use Rattle.placement_rows.specs.Centres.{centres}
use Rattle.placement_relay.specs.Relay.{has_them_itself, others}
use Rattle.placement_relay.proofs.hops.push_has_them_itself.Given as goal

abbrev pub invariant-loop-a : goal.invariant-loop-a
invariant-loop-a l = l.rows.items ≡ l.initial.rows.items ++ flat_map (λ a. flat_map (λ p. map (has_them_itself l.world l.set.0 a p) (others l.world p)) (centres l.world)) (range_with_len 0 l.a)
