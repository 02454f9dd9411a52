use Rattle.std.proofs.Common.{◌≡◌, ◌+◌, ◌*◌, ◌^◌, ◌≤◌}
use Rattle.dual_ascent.proofs.rounding.lower_once.Given as goal

abbrev pub invariant-loop-ranked : goal.invariant-loop-ranked
invariant-loop-ranked l =
    (l.tally.variables ≡ l.fn.tally.variables)
    × (l.tally.rows ≡ l.fn.tally.rows)
    × (l.tally.reach ≤ l.fn.tally.reach + l.ranked-index * 2 ^ 32)
