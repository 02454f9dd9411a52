use Rattle.std.proofs.Common.{arith}
use Rattle.placement_rows.proofs.NearCentres.{read-sets-long, read-set-at}
use Rattle.placement_strong.proofs.quorum_rows.push_meets_of.Goals as goal

pub bounds-reading-from : goal.bounds-reading-from
bounds-reading-from c = omega (arith, c.requires.number, read-sets-long c.args.world.now c.args.set.0 c.args.reading.now c.requires.reading)

pub meets-requires-clause-reading : goal.meets-requires-clause-reading
meets-requires-clause-reading c = read-set-at c.args.world.now c.args.set.0 c.args.reading.now c.requires.reading c.args.a c.from.result (omega arith) c.requires.number
