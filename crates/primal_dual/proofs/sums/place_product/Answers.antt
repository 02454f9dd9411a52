use Rattle.std.proofs.Common.{arith}
use Rattle.std.proofs.lemmas.Int.{ints}
use Rattle.primal_dual.proofs.Totals.{place_product_is}
use Rattle.primal_dual.proofs.sums.place_product.Goals as goal

pub returns : goal.returns
returns c =
    place_product_is c.args.coef c.from.result c.args.place c.requires.coef c.requires.place (omega (arith, ints, c.from.ensures))
