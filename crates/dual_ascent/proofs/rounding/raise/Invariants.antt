use Rattle.std.proofs.Common.{◌+◌, ◌*◌, ◌^◌, ◌≤◌}
use Rattle.dual_ascent.specs.Tallies.{IsTallyFor}
use Rattle.dual_ascent.proofs.rounding.raise.Given as goal

abbrev pub invariant-loop-raised : goal.invariant-loop-raised
invariant-loop-raised l = IsTallyFor l.program l.tally × (l.tally.reach ≤ (4097 + l._raised) * 2 ^ 32)
