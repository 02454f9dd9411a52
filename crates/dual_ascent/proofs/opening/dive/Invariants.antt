use Rattle.std.proofs.Common.{◌≡◌, length}
use Rattle.dual_ascent.proofs.opening.dive.Given as goal

abbrev pub invariant-loop-depth : goal.invariant-loop-depth
invariant-loop-depth l =
    (l.scout ≡ l.fn.scout) × (length l.fixed ≡ length l.program.costs) × (length l.found ≡ length l.program.costs)
