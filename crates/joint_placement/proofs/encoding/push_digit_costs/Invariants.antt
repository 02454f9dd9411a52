use Rattle.std.proofs.Common.{◌≡◌, ◌*◌, ◌^◌, ◌++◌, map}
use Rattle.std.specs.List.{range_with_len}
use Rattle.joint_placement.proofs.encoding.push_digit_costs.Given as goal

abbrev pub invariant-loop-j : goal.invariant-loop-j
invariant-loop-j l = l.costs.items ≡ l.initial.costs.items ++ map (λ j. 2 ^ j * l.machine.price) (range_with_len 0 l.j)
