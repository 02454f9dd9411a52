use Rattle.std.proofs.Common.{◌≡◌, length}
use Rattle.dual_ascent.proofs.opening.free_all.Given as goal

abbrev pub invariant-loop-var : goal.invariant-loop-var
invariant-loop-var l = length l.fixed ≡ length l.fn.fixed
