use Rattle.std.proofs.Common.{◌≡◌, ◌++◌, map}
use Rattle.std.specs.List.{range_with_len}
use Rattle.joint_placement.specs.Capacity.{digit_entry}
use Rattle.joint_placement.proofs.capacity.push_digit_entries.Given as goal

abbrev pub invariant-loop-j : goal.invariant-loop-j
invariant-loop-j l = l.entries.items ≡ l.initial.entries.items ++ map (digit_entry l.first l.machine) (range_with_len 0 l.j)
