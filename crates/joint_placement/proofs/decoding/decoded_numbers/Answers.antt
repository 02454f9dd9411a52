use Rattle.std.proofs.Common.{◌<◌, ap, arith}
use Rattle.workload.specs.World.{centre_count}
use Rattle.machine_text.specs.declared.machines.Machine.{Machine}
use Rattle.joint_placement.proofs.ReadingOff.{digits-room}
use Rattle.joint_placement.proofs.decoding.decoded_numbers.Goals as goal

pub number_at-requires-clause-bits : goal.number_at-requires-clause-bits
number_at-requires-clause-bits c =
    let w = c.args.world.now in
    let fleet = c.args.machines.now in
    let low : c.loop-d.d < centre_count w = omega (arith, c.loop-d-test.true, c.centre_count-d-end.ensures.count) in
    omega (arith, c.requires, digits-room w fleet c.loop-d.d c.loop-d.first low c.loop-d.invariant.next, ap (λ (m : Machine). m.digits) c.machine-machine.ensures.machine)
