use Rattle.std.proofs.Common.{◌≡◌, ◌+◌, ◌<◌, pos, unsigned_abs, arith, length, get_or, FitsSigned}
use Rattle.std.specs.Int.{w128}
use Rattle.std.proofs.lemmas.Int.{ints, to_z-of_z}
use Rattle.std.proofs.lemmas.List.Sums.{sum_by_more, sum_by-take-le, get_or-le-sum_by}
use Rattle.zero_one.specs.Rows.{fixed_bit}
use Rattle.bound_cert.specs.Leaves.{least_of}
use Rattle.bound_cert.proofs.Scratch.{below_more, least_of_abs, fits_small}
use Rattle.bound_cert.proofs.bounds.least_sum.Goals as goal

pub loop-var-preserved : goal.loop-var-preserved
loop-var-preserved c =
    let i = c.loop-var.var in
    let left = c.args.left.now in
    let fixed = c.args.fixed.now in
    let inside : c.loop-var.var < length c.args.left.now = (let h = c.loop-var-test.true in let e = c.requires.places in omega arith) in
    let whole = get_or-le-sum_by unsigned_abs left i (pos 0) inside in
    let fits : FitsSigned w128 (get_or c.args.left.now c.loop-var.var (pos 0)) = fits_small _ (omega (arith, whole, c.requires.small)) in
    let part : c.least_of-sum.result ≡ least_of (fixed_bit c.args.fixed.now c.loop-var.var) (get_or c.args.left.now c.loop-var.var (pos 0)) = simp to_z-of_z at c.least_of-sum.ensures in
    let small = least_of_abs (fixed_bit fixed i) (get_or left i (pos 0)) in
    let more = below_more (λ var. least_of (fixed_bit c.args.fixed.now var) (get_or c.args.left.now var (pos 0))) i in
    let front = sum_by_more unsigned_abs left i (pos 0) inside in
    let bounded = sum_by-take-le unsigned_abs left (i + 1) in
    (omega (arith, ints, more, part, small, front, bounded, c.requires.small), omega (arith, ints, part, small, front, bounded, c.requires.small))
