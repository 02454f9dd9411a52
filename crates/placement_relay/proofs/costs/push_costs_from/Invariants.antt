use Rattle.std.proofs.Common.{◌≡◌, ◌++◌, map}
use Rattle.std.specs.List.{range_with_len}
use Rattle.placement_relay.specs.Relay.{passed_cost}
use Rattle.placement_relay.proofs.costs.push_costs_from.Given as goal

abbrev pub invariant-loop-d : goal.invariant-loop-d
invariant-loop-d l = l.costs.items ≡ l.initial.costs.items ++ map (passed_cost l.world l.set.0 l.member l.from.0) (range_with_len 0 l.d)
