use Rattle.slo_rules.specs.Rules.{breach_of_reading}
use Rattle.slo_rules.proofs.Breaches.{ComesAfter}
use Rattle.slo_rules.proofs.direct.breach_of_readings.Given as goal

abbrev pub invariant-loop-m : goal.invariant-loop-m
invariant-loop-m l = ComesAfter (breach_of_reading l.world l.rule l.replicas) l.members l.m-index
