use Rattle.std.proofs.Common.{◌≡◌}
use Rattle.std.specs.List.{filter, fold, range_with_len}
use Rattle.span_base.specs.DcSet.{insert, no_centre as no_dc}
use Rattle.zero_one.specs.Rows.{bit_of}
use Rattle.placement_relay.proofs.decoding.chosen_replicas.Given as goal

abbrev pub invariant-loop-d : goal.invariant-loop-d
invariant-loop-d l = l.replicas ≡ fold insert no_dc (filter (bit_of l.x) (range_with_len 0 l.d))
