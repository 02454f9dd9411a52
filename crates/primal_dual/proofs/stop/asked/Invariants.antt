use Rattle.std.proofs.Common.{◌*◌, ◌^◌, ◌≤◌, unsigned_abs, take}
use Rattle.zero_one.specs.Rows.{weight_of}
use Rattle.primal_dual.proofs.stop.asked.Given as goal

abbrev pub invariant-loop-line : goal.invariant-loop-line
invariant-loop-line l = unsigned_abs l.asked ≤ weight_of (take l.line l.rows) * 2 ^ 100
