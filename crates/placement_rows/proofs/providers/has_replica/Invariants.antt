use Rattle.std.proofs.Common.{◌≡◌}
use Rattle.std.specs.List.{list_any}
use Rattle.span_base.specs.DcSet.{centres_of}
use Rattle.slo_rules.specs.Centres.{centres_from}
use Rattle.placement_rows.specs.FirstCentres.{is_same}
use Rattle.placement_rows.proofs.providers.has_replica.Given as goal

abbrev pub invariant-loop-d : goal.invariant-loop-d
invariant-loop-d l = list_any (is_same l.firsts l.first_centre) (centres_of l.replicas) ≡ list_any (is_same l.firsts l.first_centre) (centres_from l.replicas l.d)
