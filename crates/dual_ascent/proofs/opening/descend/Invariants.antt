use Rattle.std.proofs.Common.{◌≡◌, length}
use Rattle.dual_ascent.proofs.opening.descend.Given as goal

abbrev pub invariant-loop-bit : goal.invariant-loop-bit
invariant-loop-bit l = (l.scout ≡ l.fn.scout) × (length l.fixed ≡ length l.program.costs)
