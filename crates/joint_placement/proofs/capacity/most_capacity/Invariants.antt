use Rattle.std.proofs.Common.{◌≡◌, ◌*◌, ◌^◌, ◌≤◌}
use Rattle.std.specs.List.{sum_by, range_with_len}
use Rattle.joint_placement.proofs.capacity.most_capacity.Given as goal

abbrev pub invariant-loop-j : goal.invariant-loop-j
invariant-loop-j l = (l.sum ≡ sum_by (λ j. 2 ^ j * l.machine.capacity) (range_with_len 0 l.j)) × (l.sum ≤ l.j * (1023 * 10 ^ 6))
