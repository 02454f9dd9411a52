use Rattle.std.proofs.Common.{◌+◌, ◌*◌, ◌^◌, ◌≤◌, unsigned_abs, take}
use Rattle.bound_cert.specs.Sizes.{coefs_size}
use Rattle.primal_dual.proofs.stop.lack_of.Given as goal

abbrev pub invariant-loop-entry : goal.invariant-loop-entry
invariant-loop-entry l =
    unsigned_abs l.lack ≤ (unsigned_abs l.row.bound + coefs_size (take l.entry-index l.entry-items)) * 2 ^ 20
