use Rattle.std.proofs.Common.{◌≡◌, ◌+◌, ◌*◌, map}
use Rattle.std.specs.List.{filter, range_with_len}
use Rattle.span_base.specs.DcSet.{has}
use Rattle.placement_rows.specs.Rows.{plus}
use Rattle.placement_rows.proofs.rows.sum_row.Given as goal

abbrev pub invariant-loop-d : goal.invariant-loop-d
invariant-loop-d l = l.entries.items ≡ map (λ d. plus (l.first + d * l.step)) (filter (has l.centres) (range_with_len 0 l.d))
