use Rattle.std.proofs.Common.{◌≡◌, ◌<◌, length}
use Rattle.dual_ascent.proofs.opening.run_and_round.Given as goal

abbrev pub invariant-loop-run : goal.invariant-loop-run
invariant-loop-run l =
    (l.scout ≡ l.fn.scout) × (length l.found ≡ length l.program.costs) × (l.still < 4)
