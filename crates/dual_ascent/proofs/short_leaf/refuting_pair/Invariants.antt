use Rattle.dual_ascent.specs.Short.{NoRowRefutes}
use Rattle.dual_ascent.proofs.short_leaf.refuting_pair.Given as goal

abbrev pub invariant-loop-row : goal.invariant-loop-row
invariant-loop-row l = NoRowRefutes l.program l.fixed l.goal l.row
