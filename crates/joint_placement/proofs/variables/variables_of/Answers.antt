use Rattle.std.proofs.Common.{arith}
use Rattle.joint_placement.proofs.KnownRows.{rows-in-order}
use Rattle.joint_placement.proofs.variables.variables_of.Goals as goal

pub returns-clause-few : goal.returns-clause-few
returns-clause-few c =
    let few = (rows-in-order c.args.world.now c.args.set.0 (record { complete = c.centre_count-centres.ensures.complete; named = c.centre_count-centres.ensures.named; there = c.requires })).few in
    omega (arith, few, c.variable_count.ensures)
