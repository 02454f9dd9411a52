use Rattle.std.proofs.Common.{◌+◌, ◌*◌, ◌^◌, ◌≤◌}
use Rattle.dual_ascent.specs.Tallies.{IsTallyFor}
use Rattle.dual_ascent.proofs.rounding.start.Given as goal

abbrev pub invariant-loop-var : goal.invariant-loop-var
invariant-loop-var l = IsTallyFor l.program l.tally × (l.tally.reach ≤ (l.var + 1) * 2 ^ 32)
