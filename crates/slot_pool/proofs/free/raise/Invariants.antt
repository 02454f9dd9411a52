use Rattle.slot_pool.proofs.NodeLemmas.{IsRising}
use Rattle.slot_pool.proofs.free.raise.Given as goal

abbrev pub invariant-loop-node : goal.invariant-loop-node
invariant-loop-node l = IsRising l.fn.words l.words l.leaf l.node 1

abbrev pub decreases-loop-node : goal.decreases-loop-node
decreases-loop-node l = l.node
