use Rattle.bound_cert.specs.declared.leaves.Pair.{Pair}
use Rattle.zero_one.proofs.Risings.{RisesBelow}
use Rattle.bound_cert.proofs.closing.rise.Given as goal

abbrev pub invariant-loop-i : goal.invariant-loop-i
invariant-loop-i l = RisesBelow (λ (pair : Pair). pair.row) l.pairs l.i
