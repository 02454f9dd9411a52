use Rattle.std.proofs.Common.{◌≡◌, ◌++◌, map}
use Rattle.std.specs.List.{flat_map, range_with_len}
use Rattle.placement_rows.specs.Centres.{centres}
use Rattle.placement_relay.specs.Relay.{passed_cost}
use Rattle.placement_relay.proofs.costs.push_hop_costs.Given as goal

abbrev pub invariant-loop-p : goal.invariant-loop-p
invariant-loop-p l = l.costs.items ≡ l.initial.costs.items ++ flat_map (λ p. map (passed_cost l.world l.set.0 l.member p) (centres l.world)) (range_with_len 0 l.p)
