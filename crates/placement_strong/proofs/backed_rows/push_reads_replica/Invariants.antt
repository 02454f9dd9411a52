use Rattle.std.proofs.Common.{◌≡◌, ◌++◌, map}
use Rattle.std.specs.List.{range_with_len, flat_map}
use Rattle.placement_rows.specs.Centres.{centres}
use Rattle.placement_strong.specs.Rows.{reads_replica}
use Rattle.placement_strong.proofs.backed_rows.push_reads_replica.Given as goal

abbrev pub invariant-loop-a : goal.invariant-loop-a
invariant-loop-a l = l.rows.items ≡ l.initial.rows.items ++ flat_map (λ a. map (reads_replica l.world a) (centres l.world)) (range_with_len 0 l.a)
