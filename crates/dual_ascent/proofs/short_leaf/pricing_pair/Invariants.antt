use Rattle.dual_ascent.specs.Short.{NoRowPrices}
use Rattle.dual_ascent.proofs.short_leaf.pricing_pair.Given as goal

abbrev pub invariant-loop-row : goal.invariant-loop-row
invariant-loop-row l = NoRowPrices l.program l.fixed l.goal l.row
