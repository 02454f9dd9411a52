use Rattle.std.proofs.Common.{◌≡◌, ◌+◌, ◌++◌, [], ◌∷◌}
use Rattle.std.specs.List.{range_with_len, flat_map}
use Rattle.placement_strong.specs.Rows.{only_where}
use Rattle.placement_strong.proofs.backed_rows.push_within.Given as goal

abbrev pub invariant-loop-d : goal.invariant-loop-d
invariant-loop-d l = l.rows.items ≡ l.initial.rows.items ++ flat_map (λ d. only_where (l.one + d) (l.both + d) ∷ only_where (l.other + d) (l.both + d) ∷ []) (range_with_len 0 l.d)
