use Rattle.std.proofs.Common.{◌≡◌}
use Rattle.std.specs.List.{list_all}
use Rattle.span_base.specs.DcSet.{centres_of}
use Rattle.slo_rules.specs.Centres.{centres_from}
use Rattle.slo_rules.specs.Rules.{is_read_near}
use Rattle.slo_rules.proofs.strong.are_read_near.Given as goal

abbrev pub invariant-loop-d : goal.invariant-loop-d
invariant-loop-d l = list_all (is_read_near l.world l.rule l.member.0) (centres_of l.set) ≡ list_all (is_read_near l.world l.rule l.member.0) (centres_from l.set l.d)
