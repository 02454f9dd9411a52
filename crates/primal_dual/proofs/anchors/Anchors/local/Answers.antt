use Rattle.std.proofs.Common.{arith}
use Rattle.std.proofs.lemmas.Int.{ints}
use Rattle.primal_dual.proofs.anchors.Anchors.local.Goals as goal

pub returns : goal.returns
returns c =
    c.resting-2.ensures c.args.limit (omega (arith, ints, c.near.ensures.high, c.requires.limit)) (omega (arith, ints, c.near-2.ensures.high, c.requires.limit))
