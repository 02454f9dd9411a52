use Rattle.std.proofs.Common.{◌≡◌}
use Rattle.std.specs.List.{filter, fold, range_with_len}
use Rattle.span_base.specs.DcSet.{insert, no_centre as no_dc}
use Rattle.workload.specs.World.{rule_of}
use Rattle.slo_rules.specs.Rules.{is_write_near}
use Rattle.placement_rows.proofs.near.write_near.Given as goal

abbrev pub invariant-loop-d : goal.invariant-loop-d
invariant-loop-d l = l.near ≡ fold insert no_dc (filter (is_write_near l.world (rule_of l.world l.fn.set.0) l.member.dc.0) (range_with_len 0 l.d))
