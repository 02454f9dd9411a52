use Rattle.std.proofs.Common.{◌+◌, ◌*◌, ◌^◌, ◌≤◌}
use Rattle.dual_ascent.specs.Tallies.{IsTallyFor}
use Rattle.dual_ascent.proofs.rounding.lower.Given as goal

abbrev pub invariant-loop-pass : goal.invariant-loop-pass
invariant-loop-pass l = IsTallyFor l.program l.tally × (l.tally.reach ≤ (8194 + 4096 * l._pass) * 2 ^ 32)
