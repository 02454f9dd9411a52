use Rattle.std.proofs.Common.{◌≡◌, ◌++◌, map}
use Rattle.std.specs.List.{flat_map, range_with_len}
use Rattle.placement_rows.specs.Centres.{centres}
use Rattle.placement_relay.specs.Reading.{reads_a_replica}
use Rattle.placement_relay.proofs.rows.push_reads_a_replica.Given as goal

abbrev pub invariant-loop-a : goal.invariant-loop-a
invariant-loop-a l = l.rows.items ≡ l.initial.rows.items ++ flat_map (λ a. map (reads_a_replica l.world a) (centres l.world)) (range_with_len 0 l.a)
