use Rattle.std.proofs.Common.{◌≡◌, ℕ, ◌+◌, ◌*◌, ◌≤◌, pos, ◌-ℤ◌, ◌*ℤ◌, take, get_or, unsigned_abs, sum_by}
use Rattle.bound_cert.specs.Leaves.{coef_of}
use Rattle.bound_cert.specs.Sizes.{coefs_size}
use Rattle.bound_cert.proofs.bounds.take_entries.Given as goal

abbrev pub invariant-loop-entry : goal.invariant-loop-entry
invariant-loop-entry l =
    ((var : ℕ) → get_or l.scratch var (pos 0) ≡ get_or l.fn.scratch var (pos 0) -ℤ (pos l.mult *ℤ coef_of (take l.entry-index l.entries) var)) × (sum_by unsigned_abs l.scratch ≤ sum_by unsigned_abs l.fn.scratch + l.mult * coefs_size (take l.entry-index l.entries))
