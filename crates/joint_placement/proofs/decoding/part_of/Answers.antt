use Rattle.joint_placement.proofs.ReadingOff.{slice-part}
use Rattle.joint_placement.proofs.decoding.part_of.Goals as goal

pub returns : goal.returns
returns c = slice-part c.args.world.now c.args.x.now c.args.set.0 c.args.first c.variables_of.result c.requires.first c.variables_of.ensures.count
