use Rattle.std.proofs.Common.{◌≡◌, ◌*◌, ◌≤◌}
use Rattle.joint_placement.specs.Variables.{first_of}
use Rattle.joint_placement.proofs.variables.set_variables.Given as goal

abbrev pub invariant-loop-set : goal.invariant-loop-set
invariant-loop-set l = record { counted : l.count ≡ first_of l.world l.set; few : l.count ≤ l.set * 4096 }
