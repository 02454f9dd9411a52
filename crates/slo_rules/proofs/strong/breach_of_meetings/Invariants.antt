use Rattle.slo_rules.specs.Rules.{breach_of_meeting}
use Rattle.slo_rules.proofs.Breaches.{ComesAfter}
use Rattle.slo_rules.proofs.strong.breach_of_meetings.Given as goal

abbrev pub invariant-loop-reader : goal.invariant-loop-reader
invariant-loop-reader l = ComesAfter (breach_of_meeting l.f l.quorums) l.quorums l.reader-index
