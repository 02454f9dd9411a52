use Rattle.std.proofs.Common.{◌≡◌, ◌++◌, map}
use Rattle.std.specs.List.{range_with_len}
use Rattle.workload.specs.World.{rule_of}
use Rattle.slo_rules.specs.Cost.{stored_cost}
use Rattle.placement_relay.proofs.costs.push_stored_costs.Given as goal

abbrev pub invariant-loop-d : goal.invariant-loop-d
invariant-loop-d l = l.costs.items ≡ l.initial.costs.items ++ map (stored_cost l.world (rule_of l.world l.fn.set.0)) (range_with_len 0 l.d)
