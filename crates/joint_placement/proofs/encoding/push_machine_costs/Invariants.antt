use Rattle.std.proofs.Common.{◌≡◌, ◌++◌}
use Rattle.std.specs.List.{flat_map, range_with_len}
use Rattle.machine_text.specs.Machines.{machine_of}
use Rattle.joint_placement.specs.Variables.{digit_costs}
use Rattle.joint_placement.proofs.encoding.push_machine_costs.Given as goal

abbrev pub invariant-loop-d : goal.invariant-loop-d
invariant-loop-d l = l.costs.items ≡ l.initial.costs.items ++ flat_map (λ d. digit_costs (machine_of l.machines d)) (range_with_len 0 l.d)
