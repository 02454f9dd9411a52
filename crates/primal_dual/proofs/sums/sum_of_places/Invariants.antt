use Rattle.std.proofs.Common.{◌*◌, ◌^◌, ◌≤◌, unsigned_abs, take}
use Rattle.primal_dual.specs.Tables.{terms_size}
use Rattle.primal_dual.proofs.sums.sum_of_places.Given as goal

abbrev pub invariant-loop-term : goal.invariant-loop-term
invariant-loop-term l = unsigned_abs l.sum ≤ terms_size (take l.term-index l.terms) * 2 ^ 100
