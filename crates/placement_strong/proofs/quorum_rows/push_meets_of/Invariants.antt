use Rattle.std.proofs.Common.{◌≡◌, ◌++◌, map}
use Rattle.std.specs.List.{range_with_len}
use Rattle.placement_strong.specs.Rows.{meets}
use Rattle.placement_strong.proofs.quorum_rows.push_meets_of.Given as goal

abbrev pub invariant-loop-b : goal.invariant-loop-b
invariant-loop-b l = l.rows.items ≡ l.initial.rows.items ++ map (meets l.world l.set.0 l.a) (range_with_len 0 l.b)
