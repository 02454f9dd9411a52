use Rattle.std.proofs.Common.{◌≡◌, ◌++◌, map, take}
use Rattle.std.specs.List.{flat_map}
use Rattle.workload.specs.World.{members_of, rule_of}
use Rattle.slo_rules.specs.Cost.{gets_cost}
use Rattle.placement_rows.specs.Centres.{centres}
use Rattle.placement_relay.proofs.costs.push_reading_costs.Given as goal

abbrev pub invariant-loop-member : goal.invariant-loop-member
invariant-loop-member l = l.costs.items ≡ l.initial.costs.items ++ flat_map (λ m. map (gets_cost l.world (rule_of l.world l.set.0) m) (centres l.world)) (take l.member-index (members_of l.world l.set.0))
