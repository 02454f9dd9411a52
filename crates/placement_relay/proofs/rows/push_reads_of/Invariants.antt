use Rattle.std.proofs.Common.{◌≡◌, ◌++◌, map}
use Rattle.std.specs.List.{range_with_len}
use Rattle.placement_relay.specs.Reading.{reads_a_replica}
use Rattle.placement_relay.proofs.rows.push_reads_of.Given as goal

abbrev pub invariant-loop-d : goal.invariant-loop-d
invariant-loop-d l = l.rows.items ≡ l.initial.rows.items ++ map (reads_a_replica l.world l.a) (range_with_len 0 l.d)
