use Rattle.std.proofs.Common.{◌≡◌, map, take}
use Rattle.joint_placement.specs.Programs.{moved_entry}
use Rattle.joint_placement.proofs.encoding.moved_row.Given as goal

abbrev pub invariant-loop-entry : goal.invariant-loop-entry
invariant-loop-entry l = l.entries.items ≡ map (moved_entry l.first) (take l.entry-index l.row.entries)
