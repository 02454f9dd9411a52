use Rattle.std.proofs.Common.{◌≡◌, ◌≤◌, pos, take, get_or, unsigned_abs, sum_by}
use Rattle.zero_one.specs.Rows.{fixed_bit}
use Rattle.bound_cert.specs.Leaves.{sum_below, least_of}
use Rattle.bound_cert.proofs.bounds.least_sum.Given as goal

abbrev pub invariant-loop-var : goal.invariant-loop-var
invariant-loop-var l =
    (l.sum ≡ sum_below l.var (λ var. least_of (fixed_bit l.fixed var) (get_or l.left var (pos 0)))) × (unsigned_abs l.sum ≤ sum_by unsigned_abs (take l.var l.left))
