use Rattle.slot_pool.proofs.SearchLemmas.{IsFound}
use Rattle.slot_pool.proofs.free.FreeSlots.smallest.Given as goal

abbrev pub invariant-loop : goal.invariant-loop
invariant-loop l = IsFound l.self-inside.words.items l.self-inside.levels l.self-inside.first l.counter l.node
