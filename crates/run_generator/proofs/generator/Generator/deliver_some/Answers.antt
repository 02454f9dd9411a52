use Rattle.std.proofs.Common.{sym, subst, arith}
use Rattle.run_generator.specs.Standing.{StandsFor}
use Rattle.run_generator.proofs.Choices.{no_deliveries, deliveries_more}
use Rattle.run_generator.proofs.generator.Generator.deliver_some.Goals as goal

pub loop-number-init : goal.loop-number-init
loop-number-init c = (λ d is. subst (StandsFor c.args.self.now) (sym (no_deliveries d)) is, record { sound = c.requires.sound; few = omega arith })

pub loop-number-preserved : goal.loop-number-preserved
loop-number-preserved c =
    let goes = c.in_ok-deliver.ensures.goes in
    let few = goes.few in
    let before = c.loop-number.invariant.1.few in
    (λ d is. subst (StandsFor c.deliver.new.self) (sym (deliveries_more c.loop-number.number d)) (c.in_ok-deliver.ensures.stands _ (c.loop-number.invariant.0 d is)), record { sound = goes.sound; few = omega (arith, few, before) })
