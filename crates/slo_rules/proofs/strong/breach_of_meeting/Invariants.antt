use Rattle.slo_rules.specs.Rules.{unless, meets}
use Rattle.slo_rules.specs.declared.rules.Rule.TheVariants.{Meet}
use Rattle.slo_rules.proofs.Breaches.{ComesAfter}
use Rattle.slo_rules.proofs.strong.breach_of_meeting.Given as goal

abbrev pub invariant-loop-writer : goal.invariant-loop-writer
invariant-loop-writer l = ComesAfter (λ writer. unless (meets l.f l.reader.read writer.write) (Meet l.reader.dc writer.dc)) l.quorums l.writer-index
