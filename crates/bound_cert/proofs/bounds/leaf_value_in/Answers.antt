use Rattle.std.proofs.Common.{◌≡◌, ℕ, ◌<◌, ℤ, pos, arith, length, get_or, ap}
use Rattle.std.proofs.lemmas.Int.{ints}
use Rattle.zero_one.specs.Rows.{fixed_bit}
use Rattle.bound_cert.specs.Leaves.{least_of, reduced_cost, sum_below}
use Rattle.bound_cert.proofs.Scratch.{pairs_weight_le, below_same}
use Rattle.bound_cert.proofs.bounds.leaf_value_in.Goals as goal

pub take_rows-asked-requires-clause-light : goal.take_rows-asked-requires-clause-light
take_rows-asked-requires-clause-light c =
    let weight = pairs_weight_le c.args.program.now.rows c.args.leaf.now.pairs c.requires.fits.rising c.requires.fits.existing in
    rw (c.rows.ensures.rows, c.as_slice.ensures) (omega (arith, weight, c.rows.ensures.within.weight))

pub returns : goal.returns
returns c =
    let program = c.args.program.now in
    let leaf = c.args.leaf.now in
    let fixed = c.args.fixed.now in
    let scratch = c.take_rows-asked.new.scratch in
    let part : ℕ → ℤ = λ var. least_of (fixed_bit c.args.fixed.now var) (get_or c.take_rows-asked.new.scratch var (pos 0)) in
    let parts : sum_below (length c.args.fixed.now) (λ var. least_of (fixed_bit c.args.fixed.now var) (get_or c.take_rows-asked.new.scratch var (pos 0))) ≡ sum_below (length c.args.fixed.now) (λ var. least_of (fixed_bit c.args.fixed.now var) (reduced_cost c.args.program.now c.args.leaf.now var)) =
    below_same (length fixed) _ _ (λ var inside.
    let in_costs : var < length c.costs.result.now = (let e = c.requires.vars in let e' = ap length c.costs.ensures.costs in omega arith) in
    let cost = rw c.costs.ensures.costs at (c.scale_costs.ensures.each var in_costs) in
    let left = rw (c.rows.ensures.rows, c.as_slice.ensures) at (c.take_rows-asked.ensures.each var) in
    ap (least_of (fixed_bit fixed var)) (omega (arith, ints, cost, left))) in
    let sum = rw c.as_slice-2.ensures at c.least_sum.ensures.sum in
    let asked = rw (c.rows.ensures.rows, c.as_slice.ensures) at c.take_rows-asked.ensures.asked in
    let parts' = rw c.requires.vars at parts in
    let sum' = rw c.requires.vars at sum in
    omega (arith, ints, asked, sum', parts', c.take_rows-asked.ensures.size, c.least_sum.ensures.size)
