use Rattle.slo_rules.specs.Rules.{breach_of_primary}
use Rattle.slo_rules.proofs.Breaches.{ComesAfter}
use Rattle.slo_rules.proofs.direct.breach_of_primaries.Given as goal

abbrev pub invariant-loop-near : goal.invariant-loop-near
invariant-loop-near l = ComesAfter (breach_of_primary l.world l.rule l.replicas) l.primary l.near-index
