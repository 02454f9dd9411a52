use Rattle.std.proofs.Common.{◌≡◌, take}
use Rattle.primal_dual.specs.Tables.{terms_size}
use Rattle.primal_dual.proofs.layout.size_of.Given as goal

abbrev pub invariant-loop-term : goal.invariant-loop-term
invariant-loop-term l = l.size ≡ terms_size (take l.term-index l.terms)
