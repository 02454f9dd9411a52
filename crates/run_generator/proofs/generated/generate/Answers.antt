use Rattle.std.proofs.Common.{sym, subst, arith}
use Rattle.run_generator.specs.Chosen.{chosen}
use Rattle.run_generator.specs.Standing.{StandsFor}
use Rattle.run_generator.proofs.Choices.{chosen_more}
use Rattle.run_generator.proofs.generated.generate.Goals as goal

pub loop-before-preserved : goal.loop-before-preserved
loop-before-preserved c =
    let goes = c.in_ok-turn.ensures.goes in
    let few = goes.few in
    let before = c.loop-before.invariant.2 in
    (subst (StandsFor c.turn.new.self) (sym (chosen_more c.args.n c.loop-before.before)) (c.in_ok-turn.ensures.stands (chosen c.args.n c.loop-before.before) c.loop-before.invariant.0), goes.sound, omega (arith, few, before))
