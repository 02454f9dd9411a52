use Rattle.std.proofs.Common.{◌≡◌, ◌+◌, ◌*◌, ◌^◌, ◌≤◌, length, drop}
use Rattle.slo_rules.specs.Cost.{reading_cost}
use Rattle.slo_rules.proofs.costs.reading_cost.Given as goal

abbrev pub invariant-loop-m : goal.invariant-loop-m
invariant-loop-m l =
    (l.total + reading_cost l.world l.rule (drop (length l.yielded) l.members) (drop (length l.yielded) l.primary) ≡ reading_cost l.world l.rule l.members l.primary)
    × (l.total ≤ length l.yielded * 10 ^ 24)
