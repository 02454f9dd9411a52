use Rattle.std.proofs.Common.{take}
use Rattle.std.specs.List.{All}
use Rattle.zero_one.specs.Rows.{Meets}
use Rattle.zero_one.proofs.programs.Program.broken_row.Given as goal

abbrev pub invariant-loop-i : goal.invariant-loop-i
invariant-loop-i l = All (Meets l.x) (take l.i l.row-items)
