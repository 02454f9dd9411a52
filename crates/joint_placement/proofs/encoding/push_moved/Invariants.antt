use Rattle.std.proofs.Common.{◌≡◌, ◌++◌, map, take}
use Rattle.joint_placement.specs.Programs.{moved_row}
use Rattle.joint_placement.proofs.encoding.push_moved.Given as goal

abbrev pub invariant-loop-row : goal.invariant-loop-row
invariant-loop-row l = l.rows.items ≡ l.initial.rows.items ++ map (moved_row l.first) (take l.row-index l.more)
