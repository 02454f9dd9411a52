use Rattle.std.proofs.Common.{◌≡◌, ◌-◌}
use Rattle.std.specs.List.{filter, find, range_with_len}
use Rattle.workload.specs.World.{centre_count, rule_of}
use Rattle.slo_rules.specs.Rules.{is_read_near}
use Rattle.zero_one.specs.Rows.{bit_of}
use Rattle.placement_relay.specs.Reading.{h}
use Rattle.placement_rows.specs.Centres.{read_near}
use Rattle.placement_relay.proofs.decoding.chosen_primary.Given as goal

abbrev pub invariant-loop-d : goal.invariant-loop-d
invariant-loop-d l =
    find (λ d. bit_of l.x (h l.world l.a d)) (read_near l.world l.fn.set.0 l.member)
    ≡ find (λ d. bit_of l.x (h l.world l.a d)) (filter (is_read_near l.world (rule_of l.world l.fn.set.0) l.member.dc.0) (range_with_len l.d (centre_count l.world - l.d)))
