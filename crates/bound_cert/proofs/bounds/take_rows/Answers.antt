use Rattle.std.proofs.Common.{◌*◌, ◌<◌, ◌^◌, pos, ◌*ℤ◌, to_z, unsigned_abs, arith, get_or, FitsSigned, rules, ap}
use Rattle.std.specs.Int.{w32, w128}
use Rattle.std.proofs.lemmas.Int.{ints}
use Rattle.bound_cert.proofs.Scratch.{no_pair, fits_small, product_is, pair_step, add_fits, add_written, bound_part_more, column_part_more}
use Rattle.bound_cert.proofs.bounds.take_rows.Goals as goal

pub overflow_mul-asked : goal.overflow_mul-asked
overflow_mul-asked c =
    let row = c.index-rows-from.result in
    let p = get_or c.args.pairs.now c.loop-pair.pair-index no_pair in
    let step = pair_step c.args.rows.now c.args.pairs.now c.loop-pair.pair-index c.from.result row c.loop-pair-test.true c.requires.existing c.requires.ranges c.requires.light c.from.ensures c.index-rows-from.is in
    let fits : FitsSigned w32 c.index-rows-from.result.bound = search rules in
    rw (product_is p.mult c.from-in-loop-pair.result row.bound (omega (arith, step.range)) (omega (arith, ints, c.from-in-loop-pair.ensures, fits)) (omega (arith, ints, fits)))
    (fits_small _ (omega (arith, step.size, step.weight, step.light)))

pub overflow_add-asked : goal.overflow_add-asked
overflow_add-asked c =
    let row = c.index-rows-from.result in
    let p = get_or c.args.pairs.now c.loop-pair.pair-index no_pair in
    let step = pair_step c.args.rows.now c.args.pairs.now c.loop-pair.pair-index c.from.result row c.loop-pair-test.true c.requires.existing c.requires.ranges c.requires.light c.from.ensures c.index-rows-from.is in
    let fits : FitsSigned w32 c.index-rows-from.result.bound = search rules in
    let product_small : unsigned_abs (pos p.mult *ℤ row.bound) < 2 ^ 126 = omega (arith, step.size, step.weight, step.light) in
    let asked_small : unsigned_abs (to_z w128 c.loop-pair.asked-bits) < 2 ^ 126 = omega (arith, ints, c.loop-pair.invariant.size, step.weight, step.light, c.requires.small) in
    add_fits (to_z w128 c.loop-pair.asked-bits) _ (pos p.mult *ℤ row.bound)
    (product_is p.mult c.from-in-loop-pair.result row.bound (omega (arith, step.range)) (omega (arith, ints, c.from-in-loop-pair.ensures, fits)) (omega (arith, ints, fits)))
    (fits_small _ (omega arith)) (omega (arith, ints, product_small, asked_small))

pub loop-pair-preserved : goal.loop-pair-preserved
loop-pair-preserved c =
    let rows = c.args.rows.now in
    let pairs = c.args.pairs.now in
    let i = c.loop-pair.pair-index in
    let row = c.index-rows-from.result in
    let p = get_or c.args.pairs.now c.loop-pair.pair-index no_pair in
    let step = pair_step c.args.rows.now c.args.pairs.now c.loop-pair.pair-index c.from.result row c.loop-pair-test.true c.requires.existing c.requires.ranges c.requires.light c.from.ensures c.index-rows-from.is in
    let fits : FitsSigned w32 c.index-rows-from.result.bound = search rules in
    let product_small : unsigned_abs (pos p.mult *ℤ row.bound) < 2 ^ 126 = omega (arith, step.size, step.weight, step.light) in
    let asked_small : unsigned_abs (to_z w128 c.loop-pair.asked-bits) < 2 ^ 126 = omega (arith, ints, c.loop-pair.invariant.size, step.weight, step.light, c.requires.small) in
    let written = add_written (to_z w128 c.loop-pair.asked-bits) _ (pos p.mult *ℤ row.bound)
    (product_is p.mult c.from-in-loop-pair.result row.bound (omega (arith, step.range)) (omega (arith, ints, c.from-in-loop-pair.ensures, fits)) (omega (arith, ints, fits)))
    (fits_small _ (omega arith)) (omega (arith, ints, product_small, asked_small)) in
    let more = rw (← step.is) at (bound_part_more rows pairs i c.loop-pair-test.true) in
    let scaled = ap (λ n. 10 ^ 30 * n) step.weight in
    let taken = rw c.as_slice.ensures at c.take_entries.ensures.size in
    record {
      asked = omega (arith, ints, written, more, c.loop-pair.invariant.asked);
      each = λ var.
          let column = rw (← step.is) at (column_part_more rows pairs i var c.loop-pair-test.true) in
          let off = rw c.as_slice.ensures at (c.take_entries.ensures.each var) in
          let before = c.loop-pair.invariant.each var in
          omega (arith, ints, column, off, before);
      size = omega (arith, ints, written, taken, scaled, step.size, c.loop-pair.invariant.size);
    }
