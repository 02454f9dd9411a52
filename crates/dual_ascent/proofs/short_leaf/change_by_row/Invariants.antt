use Rattle.std.proofs.Common.{◌≡◌, ◌*◌, ◌≤◌, unsigned_abs, take}
use Rattle.bound_cert.specs.Sizes.{coefs_size}
use Rattle.dual_ascent.specs.Change.{row_change}
use Rattle.dual_ascent.proofs.short_leaf.change_by_row.Given as goal

abbrev pub invariant-loop-entry : goal.invariant-loop-entry
invariant-loop-entry l =
    (l.change ≡ row_change (take l.entry-index l.entries) l.costs l.fixed l.s l.mult) × (unsigned_abs l.change ≤ l.mult * coefs_size (take l.entry-index l.entries))
