use Rattle.slot_pool.proofs.BuildLemmas.{IsFilled}
use Rattle.slot_pool.proofs.free.FreeSlots.make.Given as goal

abbrev pub invariant-loop-slot : goal.invariant-loop-slot
invariant-loop-slot l = IsFilled l.words.items l.first l.slot l.count
