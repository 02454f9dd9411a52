use Rattle.std.proofs.Common.{◌≡◌, ◌^◌, ◌≤◌, length, take}
use Rattle.dual_ascent.specs.Tallies.{reach}
use Rattle.dual_ascent.proofs.tally.settle.Given as goal

abbrev pub invariant-loop-number : goal.invariant-loop-number
invariant-loop-number l =
    (length l.excess ≡ length l.fn.excess)
    × (l.unmet ≡ l.fn.unmet)
    × (reach (take l.number l.excess) ≤ 2 ^ 32)
