use Rattle.std.proofs.Common.{◌≡◌, ◌+◌, ◌≤◌}
use Rattle.std.specs.List.{count_by}
use Rattle.span_base.specs.DcSet.{centres_of}
use Rattle.slo_rules.specs.Rules.{is_read_near}
use Rattle.slo_rules.specs.Centres.{centres_from}
use Rattle.slo_rules.proofs.direct.read_near_count.Given as goal

abbrev pub invariant-loop-d : goal.invariant-loop-d
invariant-loop-d l =
    (l.count + count_by (is_read_near l.world l.rule l.member.0) (centres_from l.replicas l.d) ≡ count_by (is_read_near l.world l.rule l.member.0) (centres_of l.replicas))
    × (l.count ≤ l.d)
