use Rattle.std.proofs.Common.{refl, ap, ◌∙◌}
use Rattle.world_core.specs.State.{opening}
use Rattle.world_core.specs.Run.{run}
use Rattle.run_generator.specs.Chosen.{chosen}
use Rattle.run_generator.proofs.generator.Generator.open.Goals as goal

pub returns-clause-stands : goal.returns-clause-stands
unfolding chosen run
returns-clause-stands c = record {
  state = c.from.ensures;
  store = c.in_ok-make.ensures.store ∙ ap opening c.in_ok-header.ensures;
  log = c.new-2.ensures.marks;
  over = refl;
}
