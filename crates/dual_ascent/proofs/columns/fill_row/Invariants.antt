use Rattle.std.proofs.Common.{◌≡◌, ℕ, ◌+◌, ◌<◌, length, take}
use Rattle.std.specs.List.{All}
use Rattle.bound_cert.specs.Sizes.{coefs_size}
use Rattle.dual_ascent.specs.Columns.{AreIn, AreLight}
use Rattle.dual_ascent.proofs.columns.fill_row.Given as goal

abbrev pub invariant-loop-entry : goal.invariant-loop-entry
invariant-loop-entry l =
    (length l.columns ≡ length l.fn.columns)
    × ((rows : ℕ) → l.row < rows → All (AreIn rows) l.fn.columns → All (AreIn rows) l.columns)
    × ((size : ℕ) → All (AreLight size) l.fn.columns → All (AreLight (size + coefs_size (take l.entry-index l.entries))) l.columns)
