use Rattle.std.proofs.Common.{◌≡◌, length}
use Rattle.dual_ascent.proofs.tally.clear_bits.Given as goal

abbrev pub invariant-loop-i : goal.invariant-loop-i
invariant-loop-i l = length l.bits ≡ length l.fn.bits
