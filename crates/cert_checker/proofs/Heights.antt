-- Ceilings: that there is one, and how it stands to the goals of a leaf.
use Rattle.std.proofs.Common.{◌≡◌, ℕ, zero, suc, ◌*◌, ◌^◌, ◌<◌, ◌≤◌, ℤ, pos, negsuc, FitsSigned, ◌+ℤ◌, ◌-ℤ◌, ◌*ℤ◌, ◌≤ℤ◌, ◌<ℤ◌, unsigned_abs, arith, true, false}
use Rattle.std.specs.Prelude.{int_div, int_rem, int_lt}
use Rattle.std.specs.Int.{w128, cast_signed, cast_unsigned}
use Rattle.std.proofs.lemmas.Bool.{ltb-true, ltb-false}
use Rattle.std.proofs.Math.IntN.{*ℤ_comm}
use Rattle.std.proofs.Math.Nat.{mul-le-mul_right}
use Rattle.std.proofs.lemmas.Int.{ints, by_lt_z, quot-rem, rem_below, to_z-of_z, quot_fits, quot_is, rem_is}
use Rattle.bound_cert.specs.declared.leaves.Goal.{Goal}
use Rattle.bound_cert.specs.declared.leaves.Goal.TheVariants.{Cost, Nothing}
use Rattle.bound_cert.specs.Closing.{Closes}
use Rattle.bound_cert.proofs.Scaled.{scale_add, scale_pos, scale_mono}
use Rattle.cert_checker.specs.Ceilings.{IsCeiling}

-- a quotient with a positive rest is one too small
pub ceiling_above : (value : ℤ) (s : ℕ) (q r : ℤ) → (pos s *ℤ q) +ℤ r ≡ value → pos 0 <ℤ r → r ≤ℤ pos s → IsCeiling value s (q +ℤ pos 1)
ceiling_above value s q r e low high =
    let one : pos s *ℤ (q +ℤ pos 1) ≡ pos s *ℤ q +ℤ pos s = omega (arith, ints, scale_add s q (pos 1), scale_pos s 1) in
    record {
      reaches = omega (arith, ints, one, e, high);
      least = λ other h. by_lt_z other (q +ℤ pos 1) (λ lt. absurd (let m = scale_mono s other q (omega (arith, ints, lt)) in omega (arith, ints, m, e, low, h))) (λ ge. ge);
    }

-- a quotient with no positive rest is the ceiling
pub ceiling_here : (value : ℤ) (s : ℕ) (q r : ℤ) → (pos s *ℤ q) +ℤ r ≡ value → r ≤ℤ pos 0 → pos 0 <ℤ (r +ℤ pos s) → IsCeiling value s q
ceiling_here value s q r e low high =
    let back : (q -ℤ pos 1) +ℤ pos 1 ≡ q = omega (arith, ints) in
    let sum : pos s *ℤ q ≡ pos s *ℤ (q -ℤ pos 1) +ℤ pos s *ℤ pos 1 = rw back at (scale_add s (q -ℤ pos 1) (pos 1)) in
    let one : pos s *ℤ (q -ℤ pos 1) ≡ pos s *ℤ q -ℤ pos s = omega (arith, ints, sum, scale_pos s 1) in
    record {
      reaches = omega (arith, ints, e, low);
      least = λ other h. by_lt_z other q (λ lt. absurd (let m = scale_mono s other (q -ℤ pos 1) (omega (arith, ints, lt)) in omega (arith, ints, m, one, e, high, h))) (λ ge. ge);
    }

-- each value has a ceiling, the truncated quotient or one more
pub ceiling_by_rest : (value : ℤ) (s : ℕ) → 0 < s → (int_rem value (pos s) ≤ℤ pos 0 → IsCeiling value s (int_div value (pos s))) × (pos 0 <ℤ int_rem value (pos s) → IsCeiling value s (int_div value (pos s) +ℤ pos 1))
ceiling_by_rest value s positive =
    let q = int_div value (pos s) in
    let r = int_rem value (pos s) in
    let turned : pos s *ℤ int_div value (pos s) ≡ int_div value (pos s) *ℤ pos s = *ℤ_comm (pos s) (int_div value (pos s)) in
    let e : (pos s *ℤ int_div value (pos s)) +ℤ int_rem value (pos s) ≡ value = rw turned (quot-rem value (pos s)) in
    let small : unsigned_abs (int_rem value (pos s)) < s = rem_below value (pos s) positive in (
      λ low. ceiling_here value s q r e low (omega (arith, ints, small)),
      λ high. ceiling_above value s q r e high (omega (arith, ints, small)),
    )

pub some_ceiling : (value : ℤ) (s : ℕ) → 0 < s → (ceiling : ℤ) × IsCeiling value s ceiling
some_ceiling value s positive =
    let parts = ceiling_by_rest value s positive in
    let q = int_div value (pos s) in
    by_lt_z (pos 0) (int_rem value (pos s)) (λ high. (q +ℤ pos 1, parts.1 high)) (λ low. (q, parts.0 low))

-- ---- what the code computes

above_test : (z : ℤ) → int_lt (pos 0) z ≡ true → pos 0 <ℤ z
above_test (pos n) h = omega (arith, ints, ltb-true 0 n h)
above_test (negsuc n) h = absurd (cc)

below_test : (z : ℤ) → int_lt (pos 0) z ≡ false → z ≤ℤ pos 0
below_test (pos n) h = omega (arith, ints, ltb-false 0 n h)
below_test (negsuc n) h = omega (arith, ints)

quotient_small : (value : ℤ) (s : ℕ) (q r : ℤ) → 0 < s → (pos s *ℤ q) +ℤ r ≡ value → pos 0 <ℤ r → FitsSigned w128 value → FitsSigned w128 q → FitsSigned w128 (q +ℤ pos 1)
quotient_small value s (pos n) r positive e low fits q_fits =
    let scaled : 1 * n ≤ s * n = mul-le-mul_right n positive in
    omega (arith, ints, scaled, scale_pos s n, e, low, fits)
quotient_small value s (negsuc n) r positive e low fits q_fits = omega (arith, ints, q_fits)

pub computed_above : (value d : ℤ) (s : ℕ) → FitsSigned w128 value → s < 2 ^ 32 → 0 < s → d ≡ pos s → int_lt (pos 0) (cast_signed w128 (cast_unsigned w128 (int_rem (cast_signed w128 (cast_unsigned w128 value)) (cast_signed w128 (cast_unsigned w128 d))))) ≡ true → IsCeiling value s (cast_signed w128 (cast_unsigned w128 (cast_signed w128 (cast_unsigned w128 (int_div (cast_signed w128 (cast_unsigned w128 value)) (cast_signed w128 (cast_unsigned w128 d)))) +ℤ pos 1)))
computed_above value d s fits small positive is above =
    let d_fits : FitsSigned w128 (pos s) = omega (arith, ints, small) in
    let q_fits = quot_fits w128 value (pos s) fits (omega (arith, ints, positive)) in
    let above' : pos 0 <ℤ int_rem value (pos s) = above_test (int_rem value (pos s)) (rw (is, rem_is w128 value (pos s) fits d_fits) at above) in
    let turned : pos s *ℤ int_div value (pos s) ≡ int_div value (pos s) *ℤ pos s = *ℤ_comm (pos s) (int_div value (pos s)) in
    let e : (pos s *ℤ int_div value (pos s)) +ℤ int_rem value (pos s) ≡ value = rw turned (quot-rem value (pos s)) in
    rw (is, quot_is w128 value (pos s) fits d_fits q_fits, to_z-of_z w128 (int_div value (pos s) +ℤ pos 1) (quotient_small value s (int_div value (pos s)) (int_rem value (pos s)) positive e above' fits q_fits))
    ((ceiling_by_rest value s positive).1 above')

pub computed_here : (value d : ℤ) (s : ℕ) → FitsSigned w128 value → s < 2 ^ 32 → 0 < s → d ≡ pos s → int_lt (pos 0) (cast_signed w128 (cast_unsigned w128 (int_rem (cast_signed w128 (cast_unsigned w128 value)) (cast_signed w128 (cast_unsigned w128 d))))) ≡ false → IsCeiling value s (cast_signed w128 (cast_unsigned w128 (int_div (cast_signed w128 (cast_unsigned w128 value)) (cast_signed w128 (cast_unsigned w128 d)))))
computed_here value d s fits small positive is low =
    let d_fits : FitsSigned w128 (pos s) = omega (arith, ints, small) in
    let q_fits = quot_fits w128 value (pos s) fits (omega (arith, ints, positive)) in
    let low' : int_rem value (pos s) ≤ℤ pos 0 = below_test (int_rem value (pos s)) (rw (is, rem_is w128 value (pos s) fits d_fits) at low) in
    rw (is, quot_is w128 value (pos s) fits d_fits q_fits) ((ceiling_by_rest value s positive).0 low')

-- ---- ceilings and goals

pub closes_below : (value : ℤ) (s : ℕ) (ceiling : ℤ) (cost : ℕ) → 0 < s → IsCeiling value s ceiling → pos cost ≤ℤ ceiling → Closes value s (Cost cost)
closes_below value zero ceiling cost positive is h = absurd (omega arith)
closes_below value (suc s) ceiling cost positive is h =
    by_lt_z (pos (suc s) *ℤ (pos cost -ℤ pos 1)) value (λ lt. lt) (λ ge. absurd (let l = is.least (pos cost -ℤ pos 1) ge in omega (arith, ints, l, h)))

pub below_closes : (value : ℤ) (s : ℕ) (ceiling : ℤ) (cost : ℕ) → 0 < s → IsCeiling value s ceiling → Closes value s (Cost cost) → pos cost ≤ℤ ceiling
below_closes value zero ceiling cost positive is closes = absurd (omega arith)
below_closes value (suc s) ceiling cost positive is closes =
    by_lt_z ceiling (pos cost) (λ lt. absurd (let m = scale_mono (suc s) ceiling (pos cost -ℤ pos 1) (omega (arith, ints, lt)) in omega (arith, ints, m, is.reaches, closes))) (λ ge. ge)

pub never_nothing : (value : ℤ) (s : ℕ) → 0 < s → Closes value s Nothing → ⊥
never_nothing value zero positive closes = omega arith
never_nothing value (suc s) positive closes = closes

pub closes_unbounded : (value : ℤ) (s : ℕ) (goal : Goal) → s ≡ 0 → pos 0 <ℤ value → Closes value s goal
closes_unbounded value zero goal none above = above
closes_unbounded value (suc s) goal none above = absurd (omega arith)
