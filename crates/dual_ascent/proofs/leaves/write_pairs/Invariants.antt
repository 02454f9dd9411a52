use Rattle.dual_ascent.specs.Pairs.{AreInOrder}
use Rattle.dual_ascent.proofs.leaves.write_pairs.Given as goal

abbrev pub invariant-loop-row : goal.invariant-loop-row
invariant-loop-row l = AreInOrder l.row l.pairs.items
