use Rattle.std.proofs.Common.{take}
use Rattle.std.specs.List.{All}
use Rattle.zero_one.specs.Rows.{KnowsItsVars}
use Rattle.zero_one.proofs.programs.first_unknown.Given as goal

abbrev pub invariant-loop-i : goal.invariant-loop-i
invariant-loop-i l = All (KnowsItsVars l.count) (take l.i l.rows)
