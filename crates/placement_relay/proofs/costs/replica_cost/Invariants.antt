use Rattle.std.proofs.Common.{◌≡◌, ◌+◌, ◌*◌, ◌^◌, ◌≤◌, take}
use Rattle.std.specs.List.{sum_by}
use Rattle.workload.specs.World.{rule_of, members_of}
use Rattle.slo_rules.specs.Cost.{stored_cost, puts_cost}
use Rattle.placement_relay.proofs.costs.replica_cost.Given as goal

abbrev pub invariant-loop-member : goal.invariant-loop-member
invariant-loop-member l =
    let r = rule_of l.world l.fn.set.0 in
    (l.total ≡ stored_cost l.world r l.dc.0 + sum_by (λ m. puts_cost l.world r m m.dc.0 l.dc.0) (take l.member-index (members_of l.world l.fn.set.0)))
    × (l.total ≤ 10 ^ 21 + l.member-index * (10 ^ 18 + 10 ^ 23))
