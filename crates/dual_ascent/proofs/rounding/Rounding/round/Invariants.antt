use Rattle.std.proofs.Common.{◌≡◌, ℕ, length, IfSome}
use Rattle.dual_ascent.specs.Short.{IsSolution}
use Rattle.dual_ascent.specs.Tallies.{IsTallyFor}
use Rattle.dual_ascent.proofs.rounding.Rounding.round.Given as goal

abbrev pub invariant-loop-way : goal.invariant-loop-way
invariant-loop-way l =
    IsTallyFor l.program l.self
    × (length l.found ≡ length l.program.costs)
    × IfSome l.better (λ (cost : ℕ). IsSolution l.program l.fixed l.found)
