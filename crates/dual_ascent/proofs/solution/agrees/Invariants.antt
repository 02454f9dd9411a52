use Rattle.std.proofs.Common.{◌≡◌, ℕ, ◌<◌, Bool, Some}
use Rattle.zero_one.specs.Rows.{fixed_bit, bit_of}
use Rattle.dual_ascent.proofs.solution.agrees.Given as goal

abbrev pub invariant-loop-i : goal.invariant-loop-i
invariant-loop-i l = (var : ℕ) (bit : Bool) → var < l.i → fixed_bit l.fixed var ≡ Some bit → bit_of l.x var ≡ bit
