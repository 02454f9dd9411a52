use Rattle.std.proofs.Common.{◌<◌, length, sym, subst, arith}
use Rattle.zero_one.specs.Program.{IsFeasible}
use Rattle.placement.specs.Placement.{program_of}
use Rattle.joint_placement.proofs.Parts.{part-feasible}
use Rattle.joint_placement.proofs.ReadingOff.{all-bits, part-room}
use Rattle.joint_placement.proofs.decoding.decoded_policies.Goals as goal

pub part_of-part-requires-clause-room : goal.part_of-part-requires-clause-room
part_of-part-requires-clause-room c =
    let w = c.args.world.now in
    let fleet = c.args.machines.now in
    let low : c.loop-set.set < length w.sets = omega (arith, c.loop-set-test.true, c.sets-set-end.ensures) in
    omega (arith, all-bits w fleet c.args.x.now c.requires, part-room w fleet c.loop-set.set c.loop-set.first low c.loop-set.invariant.next)

pub decoded_policy-requires-clause-feasible : goal.decoded_policy-requires-clause-feasible
decoded_policy-requires-clause-feasible c =
    let w = c.args.world.now in
    let low : c.loop-set.set < length w.sets = omega (arith, c.loop-set-test.true, c.sets-set-end.ensures) in
    subst (IsFeasible (program_of w c.loop-set.set)) (sym c.part_of-part.ensures) (part-feasible w c.args.machines.now c.args.x.now c.centre_count-centres.ensures.complete c.centre_count-centres.ensures.named c.requires c.loop-set.set low)
