use Rattle.std.proofs.Common.{sym, ap, length, refl, ◌∙◌}
use Rattle.placement.proofs.Modes.{strong_costs_are, eventual_costs_are}
use Rattle.placement.proofs.by_mode.variable_count.Goals as goal

pub returns-then-is_strong : goal.returns-then-is_strong
returns-then-is_strong c = c.variable_count.ensures.variables ∙ ap length (sym (strong_costs_are c.args.world.now c.args.set.0 (c.if-is_strong.ensures.strong refl)))

pub returns-else-is_strong : goal.returns-else-is_strong
returns-else-is_strong c = c.variable_count-else-is_strong.ensures.count ∙ ap length (sym (eventual_costs_are c.args.world.now c.args.set.0 (c.if-is_strong.ensures.eventual refl)))
