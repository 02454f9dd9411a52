use Rattle.std.proofs.Common.{◌≡◌, ◌++◌, map}
use Rattle.std.specs.List.{range_with_len, flat_map}
use Rattle.placement_strong.specs.Variables.{members}
use Rattle.placement_strong.specs.Rows.{meets}
use Rattle.placement_strong.proofs.quorum_rows.push_meets.Given as goal

abbrev pub invariant-loop-a : goal.invariant-loop-a
invariant-loop-a l = l.rows.items ≡ l.initial.rows.items ++ flat_map (λ a. map (meets l.world l.set.0 a) (members l.world l.set.0)) (range_with_len 0 l.a)
