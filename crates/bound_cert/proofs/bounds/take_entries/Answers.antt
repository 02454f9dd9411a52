use Rattle.std.proofs.Common.{◌≡◌, ℕ, ◌+◌, ◌*◌, ◌<◌, ◌≤◌, ◌^◌, ℤ, pos, ◌*ℤ◌, ◌-ℤ◌, unsigned_abs, sum_by, arith, length, take, get_or, FitsSigned, refl, rules, List}
use Rattle.std.specs.Int.{w32, w128}
use Rattle.std.proofs.lemmas.Int.{ints}
use Rattle.std.proofs.lemmas.List.Sums.{get_or-le-sum_by, sum_by-take-le}
use Rattle.std.proofs.Math.Nat.{mul-le-mul_left}
use Rattle.zero_one.specs.declared.rows.Entry.{Entry}
use Rattle.bound_cert.specs.Sizes.{coefs_size}
use Rattle.bound_cert.proofs.Scratch.{no_entry, fits_small, coef_small, entry_taken, entry_size, sub_fits, sub_written, product_is}
use Rattle.bound_cert.proofs.bounds.take_entries.Goals as goal

pub overflow_mul-scratch : goal.overflow_mul-scratch
overflow_mul-scratch c =
    let coef = (get_or c.args.entries.now c.loop-entry.entry-index no_entry).coef in
    let fits : FitsSigned w32 (get_or c.args.entries.now c.loop-entry.entry-index no_entry).coef = search rules in
    let small = coef_small c.args.entries.now c.loop-entry.entry-index c.args.mult coef c.loop-entry-test.true refl in
    rw (product_is c.args.mult c.from.result coef (omega arith) (omega (arith, ints, c.from.ensures, fits)) (omega (arith, ints, fits))) (fits_small _ (omega (arith, small, c.requires.small)))

-- what a step reads and writes
record Step (v mult : ℕ) (coef : ℤ) (scratch : List ℤ) : Type 0 where
  pub held : FitsSigned w128 (get_or scratch v (pos 0))
  pub product : FitsSigned w128 (pos mult *ℤ coef)
  pub left : FitsSigned w128 (get_or scratch v (pos 0) -ℤ (pos mult *ℤ coef))

step_fits : (entries : List Entry) (i v mult : ℕ) (coef : ℤ) (scratch : List ℤ) (m : ℕ) → i < length entries → coef ≡ (get_or entries i no_entry).coef → v < length scratch → sum_by unsigned_abs scratch ≤ m + mult * coefs_size (take i entries) → m + mult * coefs_size entries < 2 ^ 126 → Step v mult coef scratch
step_fits entries i v mult coef scratch m h ce inside before small =
    let product = coef_small entries i mult coef h ce in
    let held = get_or-le-sum_by unsigned_abs scratch v (pos 0) inside in
    let front : mult * coefs_size (take i entries) ≤ mult * coefs_size entries = mul-le-mul_left mult (sum_by-take-le (λ (e : Entry). unsigned_abs e.coef) entries i) in
    let held' : unsigned_abs (get_or scratch v (pos 0)) < 2 ^ 126 = omega (arith, held, before, front, small) in
    let product' : unsigned_abs (pos mult *ℤ coef) < 2 ^ 126 = omega (arith, product, small) in
    record { held = fits_small _ (omega arith); product = fits_small _ (omega arith); left = omega (arith, ints, held', product') }

pub overflow_sub-scratch : goal.overflow_sub-scratch
overflow_sub-scratch c =
    let i = c.loop-entry.entry-index in
    let coef = (get_or c.args.entries.now c.loop-entry.entry-index no_entry).coef in
    let fits : FitsSigned w32 (get_or c.args.entries.now c.loop-entry.entry-index no_entry).coef = search rules in
    let inside : c.from-in-loop-entry.result < length c.loop-entry.scratch = search rules in
    let step = step_fits c.args.entries.now i c.from-in-loop-entry.result c.args.mult coef c.loop-entry.scratch (sum_by unsigned_abs c.args.scratch.now) c.loop-entry-test.true refl inside c.loop-entry.invariant.1 (omega (arith, c.requires.small)) in
    sub_fits (get_or c.loop-entry.scratch c.from-in-loop-entry.result (pos 0)) _ (pos c.args.mult *ℤ coef)
    (product_is c.args.mult c.from.result coef (omega arith) (omega (arith, ints, c.from.ensures, fits)) (omega (arith, ints, fits)))
    step.held step.product step.left

pub loop-entry-preserved : goal.loop-entry-preserved
loop-entry-preserved c =
    let entries = c.args.entries.now in
    let i = c.loop-entry.entry-index in
    let v = c.from-in-loop-entry.result in
    let coef = (get_or c.args.entries.now c.loop-entry.entry-index no_entry).coef in
    let fits : FitsSigned w32 (get_or c.args.entries.now c.loop-entry.entry-index no_entry).coef = search rules in
    let inside : c.from-in-loop-entry.result < length c.loop-entry.scratch = search rules in
    let step = step_fits entries i v c.args.mult coef c.loop-entry.scratch (sum_by unsigned_abs c.args.scratch.now) c.loop-entry-test.true refl inside c.loop-entry.invariant.1 (omega (arith, c.requires.small)) in
    let written = sub_written (get_or c.loop-entry.scratch v (pos 0)) _ (pos c.args.mult *ℤ coef)
    (product_is c.args.mult c.from.result coef (omega arith) (omega (arith, ints, c.from.ensures, fits)) (omega (arith, ints, fits)))
    step.held step.product step.left in (
      entry_taken entries i v c.args.mult coef _ c.loop-entry.scratch c.args.scratch.now c.loop-entry-test.true c.from-in-loop-entry.ensures refl inside written c.loop-entry.invariant.0,
      entry_size entries i v c.args.mult coef _ c.loop-entry.scratch (sum_by unsigned_abs c.args.scratch.now) c.loop-entry-test.true refl inside written c.loop-entry.invariant.1,
    )
