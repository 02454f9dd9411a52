use Rattle.run_generator.specs.Chosen.{Chosen, deliveries}
use Rattle.run_generator.specs.Standing.{StandsFor, Goes}
use Rattle.run_generator.proofs.generator.Generator.deliver_some.Given as goal

abbrev pub invariant-loop-number : goal.invariant-loop-number
invariant-loop-number l = ((c : Chosen) → StandsFor l.initial.self c → StandsFor l.self (deliveries l.number c)) × Goes l.initial.self l.self l.number
