use Rattle.slo_rules.specs.Rules.{unless, meets}
use Rattle.slo_rules.specs.declared.rules.Rule.TheVariants.{MeetWrites}
use Rattle.slo_rules.proofs.Breaches.{ComesAfter}
use Rattle.slo_rules.proofs.strong.breach_of_write_meeting.Given as goal

abbrev pub invariant-loop-second : goal.invariant-loop-second
invariant-loop-second l = ComesAfter (λ second. unless (meets l.f l.first.write second.write) (MeetWrites l.first.dc second.dc)) l.quorums l.second-index
