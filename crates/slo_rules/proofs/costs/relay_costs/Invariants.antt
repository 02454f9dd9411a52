use Rattle.std.proofs.Common.{◌≡◌, ◌*◌, ◌^◌, ◌≤◌, take}
use Rattle.std.specs.List.{sum_by}
use Rattle.slo_rules.specs.Cost.{hops_cost}
use Rattle.slo_rules.proofs.costs.relay_costs.Given as goal

abbrev pub invariant-loop-m : goal.invariant-loop-m
invariant-loop-m l =
    (l.total ≡ sum_by (hops_cost l.world l.rule l.hops) (take l.m-index l.members))
    × (l.total ≤ l.m-index * (128 * 10 ^ 24))
