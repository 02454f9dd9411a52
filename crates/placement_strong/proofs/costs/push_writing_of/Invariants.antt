use Rattle.std.proofs.Common.{◌≡◌, ◌++◌, map}
use Rattle.std.specs.List.{range_with_len}
use Rattle.workload.specs.World.{rule_of}
use Rattle.slo_rules.specs.Cost.{quorum_puts_cost}
use Rattle.placement_strong.specs.Variables.{member_at}
use Rattle.placement_strong.proofs.costs.push_writing_of.Given as goal

abbrev pub invariant-loop-d : goal.invariant-loop-d
invariant-loop-d l = l.costs.items ≡ l.initial.costs.items ++ map (quorum_puts_cost l.world (rule_of l.world l.fn.set.0) (member_at l.world l.fn.set.0 l.fn.a)) (range_with_len 0 l.d)
