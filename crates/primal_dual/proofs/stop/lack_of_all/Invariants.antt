use Rattle.std.proofs.Common.{◌*◌, ◌^◌, ◌≤◌, take}
use Rattle.zero_one.specs.Rows.{weight_of}
use Rattle.primal_dual.proofs.stop.lack_of_all.Given as goal

abbrev pub invariant-loop-line : goal.invariant-loop-line
invariant-loop-line l = l.all ≤ weight_of (take l.line l.rows) * 2 ^ 101
