use Rattle.slot_pool.proofs.NodeLemmas.{IsRising}
use Rattle.slot_pool.proofs.free.lower.Given as goal

abbrev pub invariant-loop-node : goal.invariant-loop-node
invariant-loop-node l = IsRising l.fn.words l.words l.leaf l.node 0

abbrev pub decreases-loop-node : goal.decreases-loop-node
decreases-loop-node l = l.node
