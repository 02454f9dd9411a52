use Rattle.std.proofs.Common.{◌≡◌, ℕ, ◌+◌, ◌*◌, ◌^◌, ◌≤◌}
use Rattle.std.specs.List.{sum_by}
use Rattle.span_base.specs.DcSet.{centres_of}
use Rattle.slo_rules.specs.Cost.{puts_cost}
use Rattle.slo_rules.specs.Centres.{centres_from}
use Rattle.slo_rules.proofs.costs.direct_cost.Given as goal

abbrev pub invariant-loop-d : goal.invariant-loop-d
invariant-loop-d l =
    let f : ℕ → ℕ = puts_cost l.world l.rule l.m l.m.dc.0 in
    (l.total + sum_by f (centres_from l.replicas l.d) ≡ sum_by f (centres_of l.replicas))
    × (l.total ≤ l.d * 10 ^ 24)
