use Rattle.std.proofs.Common.{◌*◌, ◌^◌, ◌≤◌, unsigned_abs}
use Rattle.primal_dual.proofs.stop.left.Given as goal

abbrev pub invariant-loop-var : goal.invariant-loop-var
invariant-loop-var l = unsigned_abs l.left ≤ l.var * 2 ^ 112
