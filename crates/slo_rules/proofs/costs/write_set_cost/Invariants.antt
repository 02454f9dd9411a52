use Rattle.std.proofs.Common.{◌≡◌, ℕ, ◌+◌, ◌*◌, ◌^◌, ◌≤◌}
use Rattle.std.specs.List.{sum_by}
use Rattle.span_base.specs.DcSet.{centres_of}
use Rattle.slo_rules.specs.Cost.{quorum_puts_cost}
use Rattle.slo_rules.specs.Centres.{centres_from}
use Rattle.slo_rules.proofs.costs.write_set_cost.Given as goal

abbrev pub invariant-loop-d : goal.invariant-loop-d
invariant-loop-d l =
    let f : ℕ → ℕ = quorum_puts_cost l.world l.rule l.m in
    (l.total + sum_by f (centres_from l.set l.d) ≡ sum_by f (centres_of l.set))
    × (l.total ≤ l.d * (2 * 10 ^ 24))
