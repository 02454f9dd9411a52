use Rattle.std.proofs.Common.{◌≡◌, ◌+◌}
use Rattle.std.specs.List.{filter, fold, range_with_len}
use Rattle.std.specs.Prelude.{◌&&◌}
use Rattle.span_base.specs.DcSet.{has, insert, no_centre as no_dc}
use Rattle.zero_one.specs.Rows.{bit_of}
use Rattle.placement_strong.proofs.decoding.chosen.Given as goal

abbrev pub invariant-loop-d : goal.invariant-loop-d
invariant-loop-d l = l.chosen ≡ fold insert no_dc (filter (λ d. has l.near d && bit_of l.x (l.first + d)) (range_with_len 0 l.d))
