use Rattle.std.proofs.Common.{◌≡◌, length}
use Rattle.dual_ascent.proofs.rounding.rank.Given as goal

abbrev pub invariant-loop-var : goal.invariant-loop-var
invariant-loop-var l = length l.order.items ≡ length l.fn.order.items
