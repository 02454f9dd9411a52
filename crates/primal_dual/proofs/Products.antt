-- A part of a number is no greater than the number.
use Rattle.std.proofs.Common.{◌≡◌, ℕ, zero, suc, ◌+◌, ◌*◌, ◌/◌, ◌^◌, ◌<◌, ◌≤◌, ℤ, pos, negsuc, neg_ℤ, ◌*ℤ◌, unsigned_abs, FitsSigned, to_z, of_z, refl, arith}
use Rattle.std.specs.Int.{w64, w128}
use Rattle.std.specs.Int.Signed.{shr_z}
use Rattle.std.proofs.Math.Nat.{mul-le-mul_left, le_trans}
use Rattle.std.proofs.lemmas.Int.{ints, to_z-of_z, fits_signed_mul}
use Rattle.std.proofs.lemmas.Nat.{div_below}

quotient_le : (a p : ℕ) → p < 2 ^ 32 → a * p / 2 ^ 32 ≤ a
quotient_le a p small =
    let whole : a * p ≤ a * 2 ^ 32 = mul-le-mul_left a (omega arith) in
    let below : a * p / 2 ^ 32 < a + 1 = div_below (a * p) (2 ^ 32) (a + 1) (omega arith) (omega arith) in
    omega arith

part_of_negative : (a p q : ℕ) → p < 2 ^ 32 → q ≡ suc a * p → unsigned_abs (shr_z (neg_ℤ (pos q)) (2 ^ 32)) ≤ suc a
part_of_negative a p zero small is = omega arith
part_of_negative a p (suc q) small is =
    let whole : suc a * p ≤ suc a * 2 ^ 32 = mul-le-mul_left (suc a) (omega arith) in
    let below : q / 2 ^ 32 < suc a = div_below q (2 ^ 32) (suc a) (omega arith) (omega arith) in
    omega arith

pub part_le : (n : ℤ) (p : ℕ) → p < 2 ^ 32 → unsigned_abs (shr_z (n *ℤ pos p) (2 ^ 32)) ≤ unsigned_abs n
part_le (pos a) p small = quotient_le a p small
part_le (negsuc a) p small = part_of_negative a p (suc a * p) small refl

cast_back : (z : ℤ) → unsigned_abs z ≤ 2 ^ 62 → to_z w64 (of_z w64 (to_z w128 (of_z w128 z))) ≡ z
cast_back z small =
    let wide : to_z w128 (of_z w128 z) ≡ z = to_z-of_z w128 z (omega (arith, ints)) in
    rw wide (to_z-of_z w64 z (omega (arith, ints)))

pub part_written : (n r q : ℤ) (p : ℕ) → unsigned_abs n ≤ 2 ^ 62 → p < 2 ^ 32 → r ≡ n → q ≡ pos p → unsigned_abs (to_z w64 (of_z w64 (to_z w128 (of_z w128 (shr_z (to_z w128 (of_z w128 (to_z w128 (of_z w128 r) *ℤ to_z w128 (of_z w128 q)))) 4294967296))))) ≤ unsigned_abs n
part_written n r q p fits small e f =
    let part = part_le n p small in
    let whole : FitsSigned w128 (n *ℤ pos p) = fits_signed_mul w128 n (pos p) (2 ^ 63) (2 ^ 32) (omega (arith, ints)) (omega (arith, ints)) (omega arith) in
    let e' : to_z w128 (of_z w128 r) ≡ n = omega (arith, ints) in
    let f' : to_z w128 (of_z w128 q) ≡ pos p = omega (arith, ints) in
    let w : to_z w128 (of_z w128 (n *ℤ pos p)) ≡ n *ℤ pos p = to_z-of_z w128 _ whole in
    rw (e', f', w, cast_back (shr_z (n *ℤ pos p) 4294967296) (le_trans part fits)) part
