use Rattle.slo_rules.specs.Rules.{breach_of_hop}
use Rattle.slo_rules.proofs.Breaches.{ComesAfter}
use Rattle.slo_rules.proofs.relay.breach_of_hops.Given as goal

abbrev pub invariant-loop-hop : goal.invariant-loop-hop
invariant-loop-hop l = ComesAfter (breach_of_hop l.replicas l.hops) l.hops l.hop-index
