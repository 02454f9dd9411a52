use Rattle.std.proofs.Common.{◌≡◌, drop}
use Rattle.span_base.specs.DcSet.{centres_of}
use Rattle.slo_rules.specs.Rules.{has_hops, hops_due, centres_asking}
use Rattle.slo_rules.proofs.shape.has_hops.Given as goal

abbrev pub invariant-loop-m : goal.invariant-loop-m
invariant-loop-m l =
    has_hops l.hops (hops_due (centres_asking l.members) (centres_of l.replicas))
    ≡ has_hops l.rest (hops_due (centres_asking (drop l.m-index l.members)) (centres_of l.replicas))
