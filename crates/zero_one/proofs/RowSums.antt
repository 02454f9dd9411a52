use Rattle.std.proofs.Common.{◌≡◌, ℕ, ◌+◌, ◌<◌, ◌≤◌, ℤ, pos, negsuc, ◌+ℤ◌, unsigned_abs, Bool, true, false, cond, List, length, get_or, take, ap, arith, sum_by, Option, Some, None}
use Rattle.std.proofs.lemmas.Int.{ints, clamps}
use Rattle.std.proofs.lemmas.List.Sums.{sum_by-take-le}
use Rattle.zero_one.specs.declared.rows.Entry.{Entry}
use Rattle.zero_one.specs.declared.rows.Row.{Row}
use Rattle.zero_one.specs.Rows.{bit_of, fixed_bit, row_sum, row_weight, most_of, greatest_sum}
use Rattle.zero_one.proofs.IntSums.{int_sum_by_more, int_sum_by_abs}

-- the entry past the end of a row
abbrev pub no_entry : Entry
no_entry = record { var = 0; coef = pos 0 }

-- a bit doesn't make a coefficient larger
pub chosen_abs : (b : Bool) (coef : ℤ) → unsigned_abs (cond b coef (pos 0)) ≤ unsigned_abs coef
chosen_abs true coef = omega arith
chosen_abs false coef = omega arith

-- nor does a fixed bit, or its lack
pub most_of_abs : (bit : Option Bool) (coef : ℤ) → unsigned_abs (most_of bit coef) ≤ unsigned_abs coef
most_of_abs (Some true) coef = omega arith
most_of_abs (Some false) coef = omega arith
most_of_abs None (pos n) = omega (arith, ints, clamps)
most_of_abs None (negsuc n) = omega (arith, ints, clamps)

-- the sum of a light row's first entries is small
pub row_sum_abs : (row : Row) (entries : List Entry) (x : List Bool) (i m : ℕ) → entries ≡ row.entries → row_weight row ≤ m → unsigned_abs (row_sum (take i entries) x) ≤ m
row_sum_abs row entries x i m e light =
    let small = int_sum_by_abs (λ (entry : Entry). cond (bit_of x entry.var) entry.coef (pos 0)) (λ entry. unsigned_abs entry.coef) (λ entry. chosen_abs (bit_of x entry.var) entry.coef) (take i entries) in
    let part = sum_by-take-le (λ (entry : Entry). unsigned_abs entry.coef) entries i in
    omega (arith, small, part, ap (sum_by (λ (entry : Entry). unsigned_abs entry.coef)) e)

-- and so is the greatest sum
pub greatest_sum_abs : (row : Row) (entries : List Entry) (fixed : List (Option Bool)) (i m : ℕ) → entries ≡ row.entries → row_weight row ≤ m → unsigned_abs (greatest_sum (take i entries) fixed) ≤ m
greatest_sum_abs row entries fixed i m e light =
    let small = int_sum_by_abs (λ (entry : Entry). most_of (fixed_bit fixed entry.var) entry.coef) (λ entry. unsigned_abs entry.coef) (λ entry. most_of_abs (fixed_bit fixed entry.var) entry.coef) (take i entries) in
    let part = sum_by-take-le (λ (entry : Entry). unsigned_abs entry.coef) entries i in
    omega (arith, small, part, ap (sum_by (λ (entry : Entry). unsigned_abs entry.coef)) e)

-- one more entry, whose variable is 1
pub row_sum_one : (entries : List Entry) (x : List Bool) (i : ℕ) → i < length entries → bit_of x (get_or entries i no_entry).var ≡ true → row_sum (take (i + 1) entries) x ≡ row_sum (take i entries) x +ℤ (get_or entries i no_entry).coef
row_sum_one entries x i h bit =
    let more = int_sum_by_more (λ (entry : Entry). cond (bit_of x entry.var) entry.coef (pos 0)) entries i no_entry h in
    rw bit at more

-- one more entry, whose variable is 0
pub row_sum_zero : (entries : List Entry) (x : List Bool) (i : ℕ) → i < length entries → bit_of x (get_or entries i no_entry).var ≡ false → row_sum (take (i + 1) entries) x ≡ row_sum (take i entries) x
row_sum_zero entries x i h bit =
    let more = int_sum_by_more (λ (entry : Entry). cond (bit_of x entry.var) entry.coef (pos 0)) entries i no_entry h in
    let more0 = rw bit at more in omega (arith, ints, more0)

pub greatest_sum_more : (entries : List Entry) (fixed : List (Option Bool)) (i : ℕ) → i < length entries → greatest_sum (take (i + 1) entries) fixed ≡ greatest_sum (take i entries) fixed +ℤ most_of (fixed_bit fixed (get_or entries i no_entry).var) (get_or entries i no_entry).coef
greatest_sum_more entries fixed i h =
    int_sum_by_more (λ (entry : Entry). most_of (fixed_bit fixed entry.var) entry.coef) entries i no_entry h
