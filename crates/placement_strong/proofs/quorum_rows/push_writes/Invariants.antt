use Rattle.std.proofs.Common.{◌≡◌, ◌++◌, map}
use Rattle.std.specs.List.{range_with_len}
use Rattle.placement_strong.specs.Rows.{writes}
use Rattle.placement_strong.proofs.quorum_rows.push_writes.Given as goal

abbrev pub invariant-loop-a : goal.invariant-loop-a
invariant-loop-a l = l.rows.items ≡ l.initial.rows.items ++ map (writes l.world l.set.0) (range_with_len 0 l.a)
