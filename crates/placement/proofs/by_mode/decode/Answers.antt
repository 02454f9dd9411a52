use Rattle.std.proofs.Common.{sym, subst, refl, ◌≤◌, IfOk}
use Rattle.zero_one.specs.Program.{value_of}
use Rattle.slo_rules.specs.Cost.{policy_cost}
use Rattle.placement.proofs.Modes.{strong_costs_are, eventual_costs_are}
use Rattle.placement.proofs.by_mode.decode.Goals as goal

pub returns-then-is_strong-clause-cost : goal.returns-then-is_strong-clause-cost
returns-then-is_strong-clause-cost c =
    let w = c.args.world.now in
    let set = c.args.set.0 in
    subst (λ costs. IfOk c.decode.result (λ policy. policy_cost w set policy ≤ value_of costs c.args.x.now)) (sym (strong_costs_are w set (c.if-is_strong.ensures.strong refl))) c.decode.ensures.cost

pub returns-else-is_strong-clause-cost : goal.returns-else-is_strong-clause-cost
returns-else-is_strong-clause-cost c =
    let w = c.args.world.now in
    let set = c.args.set.0 in
    subst (λ costs. IfOk c.decode-else-is_strong.result (λ policy. policy_cost w set policy ≤ value_of costs c.args.x.now)) (sym (eventual_costs_are w set (c.if-is_strong.ensures.eventual refl))) c.decode-else-is_strong.ensures.cost
