use Rattle.std.proofs.Common.{◌≡◌, ◌*◌, ◌^◌, ◌≤◌, take}
use Rattle.std.specs.List.{sum_by}
use Rattle.slo_rules.specs.Cost.{hop_cost}
use Rattle.slo_rules.proofs.costs.hops_cost.Given as goal

abbrev pub invariant-loop-hop : goal.invariant-loop-hop
invariant-loop-hop l =
    (l.total ≡ sum_by (hop_cost l.world l.rule l.m) (take l.hop-index l.hops)) × (l.total ≤ l.hop-index * 10 ^ 24)
