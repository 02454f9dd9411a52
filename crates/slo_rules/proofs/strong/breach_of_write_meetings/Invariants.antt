use Rattle.slo_rules.specs.Rules.{breach_of_write_meeting}
use Rattle.slo_rules.proofs.Breaches.{ComesAfter}
use Rattle.slo_rules.proofs.strong.breach_of_write_meetings.Given as goal

abbrev pub invariant-loop-first : goal.invariant-loop-first
invariant-loop-first l = ComesAfter (breach_of_write_meeting l.f l.quorums) l.quorums l.first-index
