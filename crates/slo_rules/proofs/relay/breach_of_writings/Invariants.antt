use Rattle.slo_rules.specs.Rules.{breach_of_writing, is_direct_for}
use Rattle.slo_rules.proofs.Breaches.{ComesAfter}
use Rattle.slo_rules.proofs.relay.breach_of_writings.Given as goal

abbrev pub invariant-loop-m : goal.invariant-loop-m
invariant-loop-m l = ComesAfter (breach_of_writing l.world l.rule l.replicas (is_direct_for l.hops)) l.members l.m-index
