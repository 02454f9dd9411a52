use Rattle.std.proofs.Common.{◌≡◌, ◌++◌, map}
use Rattle.std.specs.List.{filter, range_with_len}
use Rattle.placement_rows.specs.FirstCentres.{is_first}
use Rattle.placement_rows.proofs.providers.push_provider_costs.Given as goal

abbrev pub invariant-loop-d : goal.invariant-loop-d
invariant-loop-d l = l.costs.items ≡ l.initial.costs.items ++ map (λ e. 0) (filter (is_first l.firsts) (range_with_len 0 l.d))
