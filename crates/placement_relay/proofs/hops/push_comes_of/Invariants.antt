use Rattle.std.proofs.Common.{◌≡◌, ◌++◌, map}
use Rattle.std.specs.List.{range_with_len}
use Rattle.placement_relay.specs.Relay.{comes_from_somewhere}
use Rattle.placement_relay.proofs.hops.push_comes_of.Given as goal

abbrev pub invariant-loop-d : goal.invariant-loop-d
invariant-loop-d l = l.rows.items ≡ l.initial.rows.items ++ map (comes_from_somewhere l.world l.set.0 l.a) (range_with_len 0 l.d)
