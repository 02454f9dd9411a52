use Rattle.std.proofs.Common.{◌≡◌, ◌+◌, ◌*◌, ◌≤◌, map}
use Rattle.std.specs.List.{range_with_len}
use Rattle.machine_text.specs.Machines.{machine_of}
use Rattle.joint_placement.specs.Variables.{first_digit}
use Rattle.joint_placement.specs.Placed.{number_at}
use Rattle.joint_placement.proofs.decoding.decoded_numbers.Given as goal

abbrev pub invariant-loop-d : goal.invariant-loop-d
invariant-loop-d l = record {
  made : l.numbers.items ≡ map (λ d. number_at l.x (first_digit l.world l.machines d) (machine_of l.machines d)) (range_with_len 0 l.d);
  next : l.first ≡ first_digit l.world l.machines l.d;
  small : l.first ≤ 4096000 + l.d * 10;
}
