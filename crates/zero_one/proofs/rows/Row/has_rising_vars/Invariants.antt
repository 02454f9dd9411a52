use Rattle.zero_one.specs.declared.rows.Entry.{Entry}
use Rattle.zero_one.proofs.Risings.{RisesBelow}
use Rattle.zero_one.proofs.rows.Row.has_rising_vars.Given as goal

abbrev pub invariant-loop-i : goal.invariant-loop-i
invariant-loop-i l = RisesBelow (λ (entry : Entry). entry.var) l.entries l.i
