use Rattle.std.proofs.Common.{◌≡◌, ◌+◌}
use Rattle.std.specs.List.{list_any}
use Rattle.slo_rules.specs.Centres.{centres_from}
use Rattle.slo_rules.specs.Rules.{same_provider}
use Rattle.slo_rules.proofs.providers.is_shared_later.Given as goal

abbrev pub invariant-loop-d : goal.invariant-loop-d
invariant-loop-d l = list_any (same_provider l.world l.dc.0) (centres_from l.replicas (l.dc.0 + 1)) ≡ list_any (same_provider l.world l.dc.0) (centres_from l.replicas l.d)
