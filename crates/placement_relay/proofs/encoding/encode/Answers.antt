use Rattle.std.proofs.Common.{◌<◌, ◌^◌, ◌∙◌, sym, ap, subst}
use Rattle.std.specs.List.{All}
use Rattle.zero_one.specs.Contents.{Contents}
use Rattle.placement_relay.specs.Programs.{set_program, set_costs}
use Rattle.placement_relay.proofs.CostLimits.{set_costs_small}
use Rattle.placement_relay.proofs.Limits.{no_fault}
use Rattle.placement_relay.proofs.encoding.encode.Goals as goal

pub make-requires : goal.make-requires
make-requires c = subst (λ costs. All (λ cost. cost < 10 ^ 24) costs) (sym c.in_ok-costs.ensures) (set_costs_small c.args.world.now c.args.set.0 c.requires)

pub unreachable-requires : goal.unreachable-requires
unreachable-requires c =
    no_fault c.args.world.now c.args.set.0 c.requires c.in_ok-costs.costs.items c.in_ok-rows.rows.items c.in_ok-costs.ensures c.in_ok-rows.ensures c.in_default.field-0 c.in_default.ensures.fault

pub returns : goal.returns
unfolding set_program
returns c =
    c.in-Ok.ensures.made
    ∙ ap (λ costs. let r : Contents = record { costs = costs; rows = c.in_ok-rows.rows.items } in r) c.in_ok-costs.ensures
    ∙ ap (λ rows. let r : Contents = record { costs = set_costs c.args.world.now c.args.set.0; rows = rows } in r) c.in_ok-rows.ensures
