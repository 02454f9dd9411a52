use Rattle.std.proofs.Common.{◌≡◌, ◌++◌, map}
use Rattle.std.specs.List.{range_with_len}
use Rattle.placement_relay.specs.Relay.{writes_a_replica}
use Rattle.placement_relay.proofs.hops.push_writes_of.Given as goal

abbrev pub invariant-loop-p : goal.invariant-loop-p
invariant-loop-p l = l.rows.items ≡ l.initial.rows.items ++ map (writes_a_replica l.world l.set.0 l.a) (range_with_len 0 l.p)
