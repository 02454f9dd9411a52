use Rattle.std.proofs.Common.{◌≡◌, ◌+◌, ◌≤◌, length}
use Rattle.span_base.specs.DcSet.{centres_of}
use Rattle.slo_rules.specs.Centres.{centres_from}
use Rattle.slo_rules.specs.Rules.{providers_of}
use Rattle.slo_rules.proofs.providers.provider_count.Given as goal

abbrev pub invariant-loop-d : goal.invariant-loop-d
invariant-loop-d l =
    (l.count + length (providers_of l.world (centres_from l.replicas l.d)) ≡ length (providers_of l.world (centres_of l.replicas)))
    × (l.count ≤ l.d)
