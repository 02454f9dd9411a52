use Rattle.std.proofs.Common.{take}
use Rattle.dual_ascent.specs.Short.{NoPriceEnds}
use Rattle.dual_ascent.proofs.short_leaf.price_of_row.Given as goal

abbrev pub invariant-loop-entry : goal.invariant-loop-entry
invariant-loop-entry l = NoPriceEnds l.program l.fixed l.goal l.row (take l.entry-index l.entry-items)
