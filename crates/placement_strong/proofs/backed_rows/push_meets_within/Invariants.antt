use Rattle.std.proofs.Common.{◌≡◌, ◌++◌}
use Rattle.std.specs.List.{range_with_len, flat_map}
use Rattle.placement_rows.specs.Centres.{centres}
use Rattle.placement_strong.specs.Variables.{members}
use Rattle.placement_strong.specs.Rows.{meets_within}
use Rattle.placement_strong.proofs.backed_rows.push_meets_within.Given as goal

abbrev pub invariant-loop-a : goal.invariant-loop-a
invariant-loop-a l = l.rows.items ≡ l.initial.rows.items ++ flat_map (λ a. flat_map (λ b. flat_map (meets_within l.world l.set.0 a b) (centres l.world)) (members l.world l.set.0)) (range_with_len 0 l.a)
