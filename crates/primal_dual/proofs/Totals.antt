-- Sums over the terms of a line, each times a value.
use Rattle.std.proofs.Common.{◌≡◌, ℕ, ◌+◌, ◌*◌, ◌<◌, ◌≤◌, ◌^◌, ℤ, pos, ◌*ℤ◌, List, length, get_or, take, unsigned_abs, ap, arith, FitsSigned, to_z, of_z}
use Rattle.std.specs.Int.{w128}
use Rattle.std.proofs.Math.Nat.{mul-le-mul_left, mul-le-mul_right, le_trans}
use Rattle.std.proofs.lemmas.Int.{ints, to_z-of_z, to_z_pos, unsigned_abs-mul, fits_signed_mul}
use Rattle.std.proofs.lemmas.List.Sums.{sum_by_more, get_or-le-sum_by, sum_by-take-le}
use Rattle.primal_dual.specs.declared.table.Term.{Term}
use Rattle.primal_dual.specs.Tables.{terms_size}
use Rattle.primal_dual.proofs.Terms.{size}

abbrev pub no_term : Term
no_term = record { other = 0; coef = pos 0 }

-- a line's sum is small
pub total_small : (size limit : ℕ) → size ≤ 10 ^ 7 → size * limit ≤ 2 ^ 56 → size * (17 * limit + 8) ≤ 2 ^ 61
total_small size limit light small = omega arith

-- so is what one term adds to it
pub term_le : (terms : List Term) (i bound : ℕ) (value : ℤ) → i < length terms → unsigned_abs value ≤ bound → unsigned_abs (get_or terms i no_term).coef * unsigned_abs value ≤ terms_size terms * bound
term_le terms i bound value h small =
    let one = get_or-le-sum_by size terms i no_term h in
    le_trans (mul-le-mul_left (unsigned_abs (get_or terms i no_term).coef) small) (mul-le-mul_right bound one)

-- the first terms and one more
pub term_more : (terms : List Term) (i bound sum part : ℕ) (value : ℤ) → i < length terms → unsigned_abs value ≤ bound → sum ≤ terms_size (take i terms) * bound → part ≡ unsigned_abs (get_or terms i no_term).coef * unsigned_abs value → sum + part ≤ terms_size (take (i + 1) terms) * bound
term_more terms i bound sum part value h small before is =
    let more = ap (λ n. n * bound) (sum_by_more size terms i no_term h) in
    let scaled = mul-le-mul_left (unsigned_abs (get_or terms i no_term).coef) small in
    omega (arith, more, scaled, before, is)

-- the first terms are no more than all
pub front_le : (terms : List Term) (i bound : ℕ) → terms_size (take i terms) * bound ≤ terms_size terms * bound
front_le terms i bound = mul-le-mul_right bound (sum_by-take-le size terms i)

-- a place, times a coefficient
pub place_product_is : (coef r : ℤ) (place : ℕ) → unsigned_abs coef ≤ 10 ^ 7 → place ≤ 2 ^ 100 → r ≡ coef → unsigned_abs (to_z w128 (of_z w128 (to_z w128 (of_z w128 r) *ℤ to_z w128 place))) ≤ unsigned_abs coef * 2 ^ 100
place_product_is coef r place light low is =
    let r' : to_z w128 (of_z w128 r) ≡ coef = omega (arith, ints) in
    let p' : to_z w128 place ≡ pos place = to_z_pos w128 place (omega arith) in
    let fits : FitsSigned w128 (coef *ℤ pos place) = fits_signed_mul w128 coef (pos place) (10 ^ 7) (2 ^ 100) light low (omega arith) in
    let whole : to_z w128 (of_z w128 (coef *ℤ pos place)) ≡ coef *ℤ pos place = to_z-of_z w128 _ fits in
    let size = unsigned_abs-mul coef (pos place) in
    let less : unsigned_abs coef * place ≤ unsigned_abs coef * 2 ^ 100 = mul-le-mul_left (unsigned_abs coef) low in
    rw (r', p', whole) (omega (arith, size, less))
