use Rattle.std.proofs.Common.{◌≡◌, ◌*◌, ◌≤◌, ◌^◌, pos, unsigned_abs, get_or}
use Rattle.zero_one.specs.Rows.{fixed_bit}
use Rattle.bound_cert.specs.Leaves.{sum_below, least_of}
use Rattle.dual_ascent.proofs.short_leaf.least_sum.Given as goal

abbrev pub invariant-loop-var : goal.invariant-loop-var
invariant-loop-var l =
    (l.sum ≡ sum_below l.var (λ var. least_of (fixed_bit l.fixed var) (pos (l.s * get_or l.costs var 0)))) × (unsigned_abs l.sum ≤ l.var * 10 ^ 24)
