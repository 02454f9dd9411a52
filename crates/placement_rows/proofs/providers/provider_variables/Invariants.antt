use Rattle.std.proofs.Common.{◌≡◌, ◌≤◌, length}
use Rattle.std.specs.List.{filter, range_with_len}
use Rattle.placement_rows.specs.FirstCentres.{is_first}
use Rattle.placement_rows.proofs.providers.provider_variables.Given as goal

abbrev pub invariant-loop-d : goal.invariant-loop-d
invariant-loop-d l = (l.count ≡ length (filter (is_first l.firsts) (range_with_len 0 l.d))) × (l.count ≤ l.d)
