use Rattle.std.proofs.Common.{◌≡◌, ◌*◌, ◌^◌, ◌≤◌}
use Rattle.std.specs.List.{sum_by, range_with_len}
use Rattle.zero_one.specs.Rows.{row_weight}
use Rattle.joint_placement.specs.Capacity.{capacity_row}
use Rattle.joint_placement.proofs.encoding.capacities_weight.Given as goal

abbrev pub invariant-loop-d : goal.invariant-loop-d
invariant-loop-d l = record {
  summed : l.weight ≡ sum_by (λ d. row_weight (capacity_row l.world l.machines d)) (range_with_len 0 l.d);
  small : l.weight ≤ l.d * 2 ^ 101;
}
