use Rattle.std.proofs.Common.{ℕ, arith}
use Rattle.span_base.specs.declared.policy.Hop.{Hop}
use Rattle.slo_rules.specs.Cost.{hop_cost}
use Rattle.slo_rules.proofs.Sums.{sum_step}
use Rattle.slo_rules.proofs.costs.hops_cost.Goals as goal

pub loop-hop-preserved : goal.loop-hop-preserved
loop-hop-preserved c =
    let f : Hop → ℕ = hop_cost c.args.world.now c.args.rule.now c.args.m.now in
    let none : Hop = record { member = record { 0 = 0 }; child = record { 0 = 0 }; parent = record { 0 = 0 } } in
    (sum_step f c.args.hops.now c.loop-hop.hop-index none c.loop-hop.total c.hop_cost-total.result c.loop-hop-test.true c.loop-hop.invariant.0 c.hop_cost-total.ensures.cost, omega arith)
