use Rattle.std.proofs.Common.{◌≡◌, ◌++◌, ◌==◌, not, map}
use Rattle.std.specs.List.{filter, range_with_len}
use Rattle.placement_relay.specs.Relay.{has_them_itself}
use Rattle.placement_relay.proofs.hops.push_itself_from.Given as goal

abbrev pub invariant-loop-d : goal.invariant-loop-d
invariant-loop-d l = l.rows.items ≡ l.initial.rows.items ++ map (has_them_itself l.world l.set.0 l.a l.p) (filter (λ d. not (l.p == d)) (range_with_len 0 l.d))
