-- Sums over all numbers below a count.
use Rattle.std.proofs.Common.{◌≡◌, ℕ, zero, suc, ◌<◌, ◌≤◌, inl, inr, ℤ, pos, ◌+ℤ◌, ◌-ℤ◌, ◌*ℤ◌, ◌≤ℤ◌, Bool, true, false, cond, refl, sym, arith}
use Rattle.std.specs.Prelude.{◌==◌}
use Rattle.std.proofs.lemmas.Int.{ints}
use Rattle.std.proofs.lemmas.Bool.{cases_lt}
use Rattle.std.proofs.lemmas.Bool.Decides.{nat_tests}
use Rattle.bound_cert.specs.Leaves.{sum_below}
use Rattle.bound_cert.proofs.Scaled.{scale_add, scale_zero}

-- what is counted where the bit is 1
abbrev pub gated : (ℕ → Bool) → (ℕ → ℤ) → ℕ → ℤ
gated bit part i = cond (bit i) (part i) (pos 0)

pub below_le : (n : ℕ) (f g : ℕ → ℤ) → ((i : ℕ) → f i ≤ℤ g i) → sum_below n f ≤ℤ sum_below n g
below_le zero f g h = omega (arith, ints)
below_le (suc n) f g h = omega (arith, ints, h n, below_le n f g h)

gate_add : (b : Bool) (a c : ℤ) → cond b (a +ℤ c) (pos 0) ≡ cond b a (pos 0) +ℤ cond b c (pos 0)
gate_add true a c = refl
gate_add false a c = refl

gate_sub : (b : Bool) (a c : ℤ) → cond b (a -ℤ c) (pos 0) ≡ cond b a (pos 0) -ℤ cond b c (pos 0)
gate_sub true a c = refl
gate_sub false a c = refl

gate_scale : (b : Bool) (k : ℕ) (a : ℤ) → cond b (pos k *ℤ a) (pos 0) ≡ pos k *ℤ cond b a (pos 0)
gate_scale true k a = refl
gate_scale false k a = sym (scale_zero k)

pub below_add : (n : ℕ) (bit : ℕ → Bool) (f g : ℕ → ℤ) → sum_below n (gated bit (λ i. f i +ℤ g i)) ≡ sum_below n (gated bit f) +ℤ sum_below n (gated bit g)
below_add zero bit f g = omega (arith, ints)
below_add (suc n) bit f g = omega (arith, ints, gate_add (bit n) (f n) (g n), below_add n bit f g)

pub below_sub : (n : ℕ) (bit : ℕ → Bool) (f g : ℕ → ℤ) → sum_below n (gated bit (λ i. f i -ℤ g i)) ≡ sum_below n (gated bit f) -ℤ sum_below n (gated bit g)
below_sub zero bit f g = omega (arith, ints)
below_sub (suc n) bit f g = omega (arith, ints, gate_sub (bit n) (f n) (g n), below_sub n bit f g)

pub below_scale : (n : ℕ) (bit : ℕ → Bool) (k : ℕ) (f : ℕ → ℤ) → sum_below n (gated bit (λ i. pos k *ℤ f i)) ≡ pos k *ℤ sum_below n (gated bit f)
below_scale zero bit k f = sym (scale_zero k)
below_scale (suc n) bit k f =
    omega (arith, ints, gate_scale (bit n) k (f n), below_scale n bit k f, scale_add k (sum_below n (gated bit f)) (gated bit f n))

pub below_none : (n : ℕ) (bit : ℕ → Bool) → sum_below n (gated bit (λ i. pos 0)) ≡ pos 0
below_none zero bit = refl
below_none (suc n) bit = omega (arith, ints, below_none n bit, gate_none (bit n))
  where
    gate_none : (b : Bool) → cond b (pos 0) (pos 0) ≡ pos 0
    gate_none true = refl
    gate_none false = refl

other : (m n : ℕ) → n < m → (m == n) ≡ false
other m n h = grind (arith, nat_tests)

other' : (m n : ℕ) → m < n → (m == n) ≡ false
other' m n h = grind (arith, nat_tests)

same : (m : ℕ) → (m == m) ≡ true
same m = grind (arith, nat_tests)

gate_at_other : (b : Bool) (t : Bool) (c : ℤ) → t ≡ false → cond b (cond t c (pos 0)) (pos 0) ≡ pos 0
gate_at_other true true c e = absurd (cc)
gate_at_other true false c e = refl
gate_at_other false t c e = refl

gate_at_same : (b : Bool) (t : Bool) (c : ℤ) → t ≡ true → cond b (cond t c (pos 0)) (pos 0) ≡ cond b c (pos 0)
gate_at_same true true c e = refl
gate_at_same true false c e = absurd (cc)
gate_at_same false t c e = refl

single_past : (n : ℕ) (bit : ℕ → Bool) (v : ℕ) (c : ℤ) → n ≤ v → sum_below n (gated bit (λ i. cond (v == i) c (pos 0))) ≡ pos 0
single_past zero bit v c h = refl
single_past (suc n) bit v c h =
    omega (arith, ints, single_past n bit v c (omega arith), gate_at_other (bit n) (v == n) c (other v n (omega arith)))

-- what stands at one number alone
pub below_single : (n : ℕ) (bit : ℕ → Bool) (v : ℕ) (c : ℤ) → v < n → sum_below n (gated bit (λ i. cond (v == i) c (pos 0))) ≡ cond (bit v) c (pos 0)
below_single zero bit v c h = absurd (omega arith)
below_single (suc n) bit v c h =
    elim (cases_lt v n) [
      | inl lt ↦ omega (arith, ints, below_single n bit v c lt, gate_at_other (bit n) (v == n) c (other' v n lt))
      | inr ge ↦
          let e : v ≡ n = omega arith in
          rw e (omega (arith, ints, single_past n bit n c (omega arith), gate_at_same (bit n) (n == n) c (same n)))
    ]

pub below_same : (n : ℕ) (f g : ℕ → ℤ) → ((i : ℕ) → i < n → f i ≡ g i) → sum_below n f ≡ sum_below n g
below_same zero f g h = refl
below_same (suc n) f g h = omega (arith, ints, h n (omega arith), below_same n f g (λ i inside. h i (omega arith)))
