use Rattle.std.proofs.Common.{ℕ, ◌<◌}
use Rattle.bound_cert.specs.Trees.{IsFree}
use Rattle.branch_solver.proofs.node.least_free.Given as goal

abbrev pub invariant-loop-var : goal.invariant-loop-var
invariant-loop-var l = (other : ℕ) → other < l.var → ¬ IsFree l.fixed other
