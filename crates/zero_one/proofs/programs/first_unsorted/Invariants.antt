use Rattle.std.proofs.Common.{take}
use Rattle.std.specs.List.{All}
use Rattle.zero_one.specs.Rows.{HasRisingVars}
use Rattle.zero_one.proofs.programs.first_unsorted.Given as goal

abbrev pub invariant-loop-i : goal.invariant-loop-i
invariant-loop-i l = All (HasRisingVars) (take l.i l.rows)
