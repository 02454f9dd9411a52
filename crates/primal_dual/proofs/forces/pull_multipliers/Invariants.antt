use Rattle.std.proofs.Common.{◌≡◌}
use Rattle.primal_dual.proofs.forces.pull_multipliers.Given as goal

abbrev pub invariant-loop-line : goal.invariant-loop-line
invariant-loop-line l = l.side ≡ l.initial.side
