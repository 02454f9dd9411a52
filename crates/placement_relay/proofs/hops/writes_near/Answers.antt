use Rattle.std.proofs.Common.{◌≡◌, ◌+◌, ◌*◌, ap, arith}
use Rattle.workload.specs.World.{centre_count, rule_of}
use Rattle.workload.specs.declared.rules.SetRule.{SetRule}
use Rattle.placement_rows.specs.Centres.{write_near}
use Rattle.placement_relay.specs.Relay.{q}
use Rattle.placement_rows.proofs.SumRows.{sum_is}
use Rattle.placement_relay.proofs.hops.writes_near.Goals as goal

pub returns : goal.returns
returns c =
    let w = c.args.world.now in
    let f : c.rule.result.f ≡ (rule_of w c.args.set.0).f = ap (λ (r : SetRule). r.f) c.rule.ensures.rule in
    let step : c.from-step.result ≡ centre_count w = omega arith in
    sum_is (λ p. q w c.args.set.0 c.args.a p p) c.first_hop.result (c.from-step.result + 1) (c.rule.result.f + 1) ((rule_of w c.args.set.0).f + 1) _ (write_near w c.args.set.0 c.args.member.now) c.write_near-near.ensures.centres
    (λ p. omega (arith, c.first_hop.ensures.variable, ap (λ n. p * (n + 1)) step)) (ap (λ k. k + 1) f) c.sum_row.result c.sum_row.ensures
