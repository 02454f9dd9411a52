use Rattle.std.proofs.Common.{◌≡◌, ◌++◌, map}
use Rattle.std.specs.List.{range_with_len, flat_map}
use Rattle.placement_rows.specs.Centres.{centres}
use Rattle.placement_strong.specs.Rows.{writes_replica}
use Rattle.placement_strong.proofs.backed_rows.push_writes_replica.Given as goal

abbrev pub invariant-loop-a : goal.invariant-loop-a
invariant-loop-a l = l.rows.items ≡ l.initial.rows.items ++ flat_map (λ a. map (writes_replica l.world l.set.0 a) (centres l.world)) (range_with_len 0 l.a)
