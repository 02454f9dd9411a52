use Rattle.std.proofs.Common.{◌≡◌, ◌*◌, ◌^◌, ◌≤◌, take, sum_by}
use Rattle.zero_one.specs.Rows.{row_weight}
use Rattle.joint_placement.proofs.encoding.rows_weight.Given as goal

abbrev pub invariant-loop-row : goal.invariant-loop-row
invariant-loop-row l = (l.weight ≡ sum_by row_weight (take l.row-index l.rows)) × (l.weight ≤ l.row-index * 2 ^ 100)
