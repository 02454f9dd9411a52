use Rattle.std.proofs.Common.{◌≡◌}
use Rattle.primal_dual.proofs.forces.pull_variables.Given as goal

abbrev pub invariant-loop-var : goal.invariant-loop-var
invariant-loop-var l = l.side ≡ l.initial.side
