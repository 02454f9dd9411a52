use Rattle.std.proofs.Common.{◌≡◌, ◌+◌, map}
use Rattle.std.specs.List.{filter, range_with_len}
use Rattle.span_base.specs.DcSet.{has}
use Rattle.placement_rows.specs.Rows.{plus}
use Rattle.placement_strong.proofs.quorum_rows.quorum_row.Given as goal

abbrev pub invariant-loop-d : goal.invariant-loop-d
invariant-loop-d l = l.entries.items ≡ map (λ d. plus (l.first + d)) (filter (has l.places) (range_with_len 0 l.d))
