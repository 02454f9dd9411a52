use Rattle.slo_rules.specs.Rules.{breach_of_read_set}
use Rattle.slo_rules.proofs.Breaches.{ComesAfter}
use Rattle.slo_rules.proofs.strong.breach_of_read_sets.Given as goal

abbrev pub invariant-loop-q : goal.invariant-loop-q
invariant-loop-q l = ComesAfter (breach_of_read_set l.world l.rule) l.quorums l.q-index
