use Rattle.std.proofs.Common.{◌≡◌, ◌++◌, map}
use Rattle.std.specs.List.{range_with_len, flat_map}
use Rattle.workload.specs.World.{rule_of}
use Rattle.slo_rules.specs.Cost.{quorum_puts_cost}
use Rattle.placement_rows.specs.Centres.{centres}
use Rattle.placement_strong.specs.Variables.{member_at}
use Rattle.placement_strong.proofs.costs.push_writing.Given as goal

abbrev pub invariant-loop-a : goal.invariant-loop-a
invariant-loop-a l = l.costs.items ≡ l.initial.costs.items ++ flat_map (λ a. map (quorum_puts_cost l.world (rule_of l.world l.set.0) (member_at l.world l.set.0 a)) (centres l.world)) (range_with_len 0 l.a)
