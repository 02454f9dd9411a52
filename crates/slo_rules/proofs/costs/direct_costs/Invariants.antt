use Rattle.std.proofs.Common.{◌≡◌, ◌*◌, ◌^◌, ◌≤◌, take}
use Rattle.std.specs.List.{sum_by}
use Rattle.slo_rules.specs.Cost.{direct_cost}
use Rattle.slo_rules.proofs.costs.direct_costs.Given as goal

abbrev pub invariant-loop-m : goal.invariant-loop-m
invariant-loop-m l =
    (l.total ≡ sum_by (direct_cost l.world l.rule l.replicas) (take l.m-index l.members))
    × (l.total ≤ l.m-index * (16 * 10 ^ 24))
