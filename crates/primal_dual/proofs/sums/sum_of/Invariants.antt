use Rattle.std.proofs.Common.{ℕ, ◌+◌, ◌*◌, ◌≤◌, unsigned_abs, take}
use Rattle.std.specs.List.{All}
use Rattle.primal_dual.specs.Tables.{terms_size}
use Rattle.primal_dual.specs.Locals.{IsShown}
use Rattle.primal_dual.proofs.sums.sum_of.Given as goal

abbrev pub invariant-loop-term : goal.invariant-loop-term
invariant-loop-term l =
    (limit : ℕ) → All (IsShown limit) l.values → unsigned_abs l.sum ≤ terms_size (take l.term-index l.terms) * (17 * limit + 8)
