use Rattle.std.proofs.Common.{◌≡◌, ◌+◌, ◌*◌, ◌^◌, ◌≤◌, length, drop}
use Rattle.slo_rules.specs.Cost.{quorum_costs}
use Rattle.slo_rules.proofs.costs.quorum_costs.Given as goal

abbrev pub invariant-loop-m : goal.invariant-loop-m
invariant-loop-m l =
    (l.total + quorum_costs l.world l.rule (drop (length l.yielded) l.members) (drop (length l.yielded) l.quorums) ≡ quorum_costs l.world l.rule l.members l.quorums)
    × (l.total ≤ length l.yielded * (48 * 10 ^ 24))
