use Rattle.std.proofs.Common.{◌≡◌, ◌++◌, map}
use Rattle.std.specs.List.{range_with_len}
use Rattle.joint_placement.specs.Variables.{first_digit}
use Rattle.joint_placement.specs.Capacity.{capacity_row}
use Rattle.joint_placement.proofs.encoding.push_capacity_rows.Given as goal

abbrev pub invariant-loop-d : goal.invariant-loop-d
invariant-loop-d l = record {
  made : l.rows.items ≡ l.initial.rows.items ++ map (capacity_row l.world l.machines) (range_with_len 0 l.d);
  next : l.digit ≡ first_digit l.world l.machines l.d;
}
