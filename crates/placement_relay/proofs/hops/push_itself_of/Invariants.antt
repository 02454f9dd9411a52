use Rattle.std.proofs.Common.{◌≡◌, ◌++◌, map}
use Rattle.std.specs.List.{flat_map, range_with_len}
use Rattle.placement_relay.specs.Relay.{has_them_itself, others}
use Rattle.placement_relay.proofs.hops.push_itself_of.Given as goal

abbrev pub invariant-loop-p : goal.invariant-loop-p
invariant-loop-p l = l.rows.items ≡ l.initial.rows.items ++ flat_map (λ p. map (has_them_itself l.world l.set.0 l.a p) (others l.world p)) (range_with_len 0 l.p)
