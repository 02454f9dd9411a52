use Rattle.std.proofs.Common.{◌≡◌, ◌++◌, take}
use Rattle.joint_placement.proofs.encoding.push_costs.Given as goal

abbrev pub invariant-loop-cost : goal.invariant-loop-cost
invariant-loop-cost l = l.costs.items ≡ l.initial.costs.items ++ take l.cost-index l.more
