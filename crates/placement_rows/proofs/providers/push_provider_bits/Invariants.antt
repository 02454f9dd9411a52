use Rattle.std.proofs.Common.{◌≡◌, ◌++◌, map}
use Rattle.std.specs.List.{filter, list_any, range_with_len}
use Rattle.span_base.specs.DcSet.{centres_of}
use Rattle.placement_rows.specs.FirstCentres.{is_first, is_same}
use Rattle.placement_rows.proofs.providers.push_provider_bits.Given as goal

abbrev pub invariant-loop-d : goal.invariant-loop-d
invariant-loop-d l = l.bits.items ≡ l.initial.bits.items ++ map (λ e. list_any (is_same l.firsts e) (centres_of l.replicas)) (filter (is_first l.firsts) (range_with_len 0 l.d))
