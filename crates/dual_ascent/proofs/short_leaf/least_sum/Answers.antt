use Rattle.std.proofs.Common.{◌≡◌, ◌*◌, pos, arith, get_or}
use Rattle.std.proofs.lemmas.Int.{ints}
use Rattle.zero_one.specs.Rows.{fixed_bit}
use Rattle.bound_cert.specs.Leaves.{least_of}
use Rattle.bound_cert.proofs.Scratch.{below_more}
use Rattle.dual_ascent.proofs.short_leaf.least_sum.Goals as goal

pub loop-var-preserved : goal.loop-var-preserved
loop-var-preserved c =
    let part : c.least_of-sum.result ≡ least_of (fixed_bit c.args.fixed.now c.loop-var.var) (pos (c.args.s * get_or c.args.costs.now c.loop-var.var 0)) = rw c.scaled.ensures.exact at c.least_of-sum.ensures.exact in
    let small = c.least_of-sum.ensures.small in
    let more = below_more (λ var. least_of (fixed_bit c.args.fixed.now var) (pos (c.args.s * get_or c.args.costs.now var 0))) c.loop-var.var in
    (omega (arith, ints, more, part, small), omega (arith, ints, small))
