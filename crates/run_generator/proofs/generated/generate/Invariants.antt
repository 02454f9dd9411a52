use Rattle.std.proofs.Common.{◌≤◌, ◌*◌}
use Rattle.run_generator.specs.Chosen.{chosen}
use Rattle.run_generator.specs.Standing.{StandsFor, IsSound}
use Rattle.run_generator.proofs.generated.generate.Given as goal

abbrev pub invariant-loop-before : goal.invariant-loop-before
invariant-loop-before l = StandsFor l.generator (chosen l.n l.before) × IsSound l.generator × (l.generator.cloud.events ≤ 27 * l.before)
