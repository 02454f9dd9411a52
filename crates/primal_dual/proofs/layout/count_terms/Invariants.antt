use Rattle.std.proofs.Common.{◌≤◌, sum}
use Rattle.primal_dual.proofs.layout.count_terms.Given as goal

abbrev pub invariant-loop-term : goal.invariant-loop-term
invariant-loop-term l = sum l.counts ≤ l.term-index
