use Rattle.std.proofs.Common.{◌*◌, ◌^◌, ◌≤◌}
use Rattle.primal_dual.proofs.stop.cost_of.Given as goal

abbrev pub invariant-loop-var : goal.invariant-loop-var
invariant-loop-var l = l.all ≤ l.var * (10 ^ 24 * 2 ^ 20)
