use Rattle.std.proofs.Common.{◌≡◌, ◌*◌, pos, ◌-ℤ◌, ap, arith, length, get_or}
use Rattle.std.proofs.lemmas.Int.{ints}
use Rattle.zero_one.specs.Rows.{fixed_bit}
use Rattle.bound_cert.specs.Leaves.{sum_below, least_of}
use Rattle.bound_cert.proofs.Scratch.{below_same}
use Rattle.dual_ascent.proofs.short_leaf.bare_value.Goals as goal

pub returns-clause-exact : goal.returns-clause-exact
returns-clause-exact c =
    let program = c.args.program.now in
    let same : sum_below (length c.args.program.now.costs) (λ var. least_of (fixed_bit c.args.fixed.now var) (pos (c.args.s * get_or c.args.program.now.costs var 0))) ≡ sum_below (length c.args.program.now.costs) (λ var. least_of (fixed_bit c.args.fixed.now var) (pos (c.args.s * get_or c.args.program.now.costs var 0) -ℤ pos 0)) =
    below_same (length program.costs) _ _ (λ var inside. ap (least_of (fixed_bit c.args.fixed.now var)) (omega (arith, ints))) in
    let sum = rw (c.as_slice.ensures, c.costs.ensures.costs, c.requires.vars) at c.least_sum.ensures.sum in
    omega (arith, ints, sum, same)
