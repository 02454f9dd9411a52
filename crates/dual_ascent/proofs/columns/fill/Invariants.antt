use Rattle.std.proofs.Common.{◌≡◌, length, take}
use Rattle.std.specs.List.{All}
use Rattle.zero_one.specs.Rows.{weight_of}
use Rattle.dual_ascent.specs.Columns.{AreIn, AreLight}
use Rattle.dual_ascent.proofs.columns.fill.Given as goal

abbrev pub invariant-loop-number : goal.invariant-loop-number
invariant-loop-number l =
    (length l.columns ≡ length l.fn.columns)
    × All (AreIn (length l.rows)) l.columns
    × All (AreLight (weight_of (take l.number l.rows))) l.columns
