use Rattle.std.proofs.Common.{◌≡◌, ◌∙◌, ap, arith}
use Rattle.workload.specs.World.{centre_count}
use Rattle.joint_placement.specs.Variables.{first_digit}
use Rattle.joint_placement.proofs.Counting.{all-counted}
use Rattle.joint_placement.proofs.variables.variable_count.Goals as goal

pub returns-clause-count : goal.returns-clause-count
returns-clause-count c =
    let w = c.args.world.now in
    let fleet = c.args.machines.now in
    let end : c.loop-d.d ≡ centre_count w = omega (arith, c.loop-d-test.false, c.loop-d.auto.d-end, c.centre_count-d-end.ensures.count) in
    c.loop-d.invariant.counted ∙ ap (first_digit w fleet) end ∙ all-counted w fleet
