use Rattle.std.proofs.Common.{◌≡◌, ◌+◌, ◌≤◌, length, take}
use Rattle.dual_ascent.specs.Columns.{terms_size}
use Rattle.dual_ascent.specs.Tallies.{reach}
use Rattle.dual_ascent.proofs.tally.add.Given as goal

abbrev pub invariant-loop-term : goal.invariant-loop-term
invariant-loop-term l =
    (length l.excess ≡ length l.fn.excess)
    × (l.unmet ≡ l.fn.unmet)
    × (reach l.excess ≤ reach l.fn.excess + terms_size (take l.term-index l.column))
