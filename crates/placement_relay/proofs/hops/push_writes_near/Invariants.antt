use Rattle.std.proofs.Common.{◌≡◌, ◌++◌, map, take}
use Rattle.placement_rows.specs.Centres.{numbered_members}
use Rattle.placement_relay.specs.Relay.{writes_near}
use Rattle.placement_relay.proofs.hops.push_writes_near.Given as goal

abbrev pub invariant-loop-a : goal.invariant-loop-a
invariant-loop-a l = l.rows.items ≡ l.initial.rows.items ++ map (writes_near l.world l.set.0) (take l.a (numbered_members l.world l.set.0))
