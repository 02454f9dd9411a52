use Rattle.std.proofs.Common.{◌≡◌, ◌++◌}
use Rattle.std.specs.List.{range_with_len, flat_map}
use Rattle.placement_rows.specs.Centres.{centres}
use Rattle.placement_strong.specs.Rows.{meets_within}
use Rattle.placement_strong.proofs.backed_rows.push_meets_within_of.Given as goal

abbrev pub invariant-loop-b : goal.invariant-loop-b
invariant-loop-b l = l.rows.items ≡ l.initial.rows.items ++ flat_map (λ b. flat_map (meets_within l.world l.set.0 l.a b) (centres l.world)) (range_with_len 0 l.b)
