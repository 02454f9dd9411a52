use Rattle.std.proofs.Common.{arith}
use Rattle.joint_placement.proofs.variables.set_variables.Goals as goal

pub returns-clause-few : goal.returns-clause-few
returns-clause-few c = omega (arith, c.loop-set.invariant.few, c.loop-set.auto.set-end, c.sets-set-end.ensures, c.centre_count-centres.ensures.complete.few_sets)
