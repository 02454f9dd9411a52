use Rattle.std.proofs.Common.{◌≡◌, ◌+◌, ap, refl, arith}
use Rattle.span_base.specs.DcSet.{centres_of}
use Rattle.workload.specs.World.{rule_of}
use Rattle.workload.specs.declared.rules.SetRule.{SetRule}
use Rattle.placement_rows.proofs.SumRows.{sum_is}
use Rattle.placement_relay.proofs.rows.has_replicas.Goals as goal

pub returns : goal.returns
returns c =
    let f : c.rule.result.f ≡ (rule_of c.args.world.now c.args.set.0).f = ap (λ (r : SetRule). r.f) c.rule.ensures.rule in
    sum_is (λ d. d) 0 1 (c.rule.result.f + 1) ((rule_of c.args.world.now c.args.set.0).f + 1) (centres_of c.args.near.now) (centres_of c.args.near.now) refl (λ d. omega arith) (ap (λ k. k + 1) f) c.sum_row.result c.sum_row.ensures
