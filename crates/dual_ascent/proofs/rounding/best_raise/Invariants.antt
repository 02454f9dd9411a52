use Rattle.std.proofs.Common.{◌<◌, length, IfSome}
use Rattle.dual_ascent.proofs.rounding.best_raise.Given as goal

abbrev pub invariant-loop-entry : goal.invariant-loop-entry
invariant-loop-entry l = IfSome l.best (λ one. one.var < length l.program.costs)
