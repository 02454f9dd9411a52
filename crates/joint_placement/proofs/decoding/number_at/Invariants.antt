use Rattle.std.proofs.Common.{◌≡◌, ◌+◌, ◌*◌, ◌^◌, ◌≤◌, cond}
use Rattle.std.specs.List.{sum_by, range_with_len}
use Rattle.zero_one.specs.Rows.{bit_of}
use Rattle.joint_placement.proofs.decoding.number_at.Given as goal

abbrev pub invariant-loop-j : goal.invariant-loop-j
invariant-loop-j l = record {
  counted : l.number ≡ sum_by (λ j. cond (bit_of l.x (l.first + j)) (2 ^ j) 0) (range_with_len 0 l.j);
  small : l.number ≤ l.j * 1023;
}
