use Rattle.std.proofs.Common.{◌≡◌, ◌+◌, ◌*◌, ◌≤◌}
use Rattle.joint_placement.specs.Variables.{first_digit}
use Rattle.joint_placement.proofs.variables.variable_count.Given as goal

abbrev pub invariant-loop-d : goal.invariant-loop-d
invariant-loop-d l = record { counted : l.count ≡ first_digit l.world l.machines l.d; few : l.count ≤ 4096000 + l.d * 10 }
