use Rattle.std.proofs.Common.{true}
use Rattle.slo_rules.specs.Rules.{breach_of_writing}
use Rattle.slo_rules.proofs.Breaches.{ComesAfter}
use Rattle.slo_rules.proofs.direct.breach_of_writings.Given as goal

abbrev pub invariant-loop-m : goal.invariant-loop-m
invariant-loop-m l = ComesAfter (breach_of_writing l.world l.rule l.replicas (λ member dc. true)) l.members l.m-index
