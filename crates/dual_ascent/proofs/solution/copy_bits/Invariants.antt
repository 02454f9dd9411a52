use Rattle.std.proofs.Common.{◌≡◌, length, take}
use Rattle.dual_ascent.proofs.solution.copy_bits.Given as goal

abbrev pub invariant-loop-i : goal.invariant-loop-i
invariant-loop-i l = (length l.to ≡ length l.bits) × (take l.i l.to ≡ take l.i l.bits)
