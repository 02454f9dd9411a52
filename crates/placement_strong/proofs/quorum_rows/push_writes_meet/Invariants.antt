use Rattle.std.proofs.Common.{◌≡◌, ◌++◌, map, take}
use Rattle.placement_strong.specs.Rows.{writes_meet, numbered_pairs}
use Rattle.placement_strong.proofs.quorum_rows.push_writes_meet.Given as goal

abbrev pub invariant-loop-pair : goal.invariant-loop-pair
invariant-loop-pair l = l.rows.items ≡ l.initial.rows.items ++ map (writes_meet l.world l.set.0) (take l.pair (numbered_pairs l.world l.set.0))
