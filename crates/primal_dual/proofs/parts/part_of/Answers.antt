use Rattle.std.proofs.Common.{rules, arith}
use Rattle.std.proofs.lemmas.Int.{ints}
use Rattle.primal_dual.proofs.Products.{part_written}
use Rattle.primal_dual.proofs.parts.part_of.Goals as goal

pub returns : goal.returns
returns c =
    part_written c.args.number c.from.result c.from-2.result c.args.part c.requires (search rules) (omega (arith, ints, c.from.ensures)) c.from-2.ensures
