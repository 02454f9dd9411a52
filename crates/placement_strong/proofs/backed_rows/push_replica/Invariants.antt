use Rattle.std.proofs.Common.{◌≡◌, ◌+◌, ◌++◌, map}
use Rattle.std.specs.List.{range_with_len}
use Rattle.placement_strong.specs.Rows.{only_where}
use Rattle.placement_strong.proofs.backed_rows.push_replica.Given as goal

abbrev pub invariant-loop-d : goal.invariant-loop-d
invariant-loop-d l = l.rows.items ≡ l.initial.rows.items ++ map (λ d. only_where d (l.low + d)) (range_with_len 0 l.d)
