-- Numbers of machines and their binary digits.
use Rattle.std.proofs.Common.{◌≡◌, ℕ, zero, suc, ◌+◌, ◌*◌, ◌^◌, ◌%◌, ◌<◌, ◌≤◌, Bool, true, false, cond, ◌==◌, sym, ap, ◌∙◌, arith}
use Rattle.std.specs.Int.{bit_at}
use Rattle.std.specs.List.{sum_by, range_with_len}
use Rattle.std.proofs.Math.Nat.{mod-eq_of_lt, pow-suc}
use Rattle.std.proofs.lemmas.Nat.{mod-pow-add}
use Rattle.std.proofs.lemmas.Nat.Bits.{bit_at-lt}
use Rattle.joint_placement.specs.Placed.{digit_of}
use Rattle.joint_placement.proofs.Stacks.{by-next, sum-next}

-- what the digits of a number count
abbrev counted : (ℕ → Bool) → ℕ → ℕ
counted digit k = sum_by (λ j. cond (digit j) (2 ^ j) 0) (range_with_len 0 k)

twice : (k : ℕ) → 2 ^ (k + 1) ≡ 2 ^ k + 2 ^ k
twice k =
    let at : k + 1 ≡ suc k = omega arith in
    ap (λ n. 2 ^ n) at ∙ pow-suc 2 k ∙ (let e : 2 ^ k * 2 ≡ 2 ^ k + 2 ^ k = omega arith in e)

part-le : (b : Bool) (v : ℕ) → cond b v 0 ≤ v
part-le true v = omega arith
part-le false v = omega arith

-- so many digits count fewer than there are numbers of them
pub below-digits : (digit : ℕ → Bool) (k : ℕ) → counted digit k < 2 ^ k
below-digits digit =
    by-next (λ k. counted digit k < 2 ^ k) (omega arith)
    (λ k before. omega (arith, before, twice k, sum-next (λ j. cond (digit j) (2 ^ j) 0) k, part-le (digit k) (2 ^ k)))

-- a digit counts what it is
one_digit : (b v : ℕ) → b < 2 → cond (b == 1) v 0 ≡ b * v
one_digit zero v low = omega arith
one_digit (suc zero) v low = omega arith
one_digit (suc (suc b)) v low = absurd (omega arith)

lowest : (n k : ℕ) → counted (digit_of n) k ≡ n % 2 ^ k
lowest n =
    by-next (λ k. counted (digit_of n) k ≡ n % 2 ^ k) none
    (λ k before.
    let at : 1 + k ≡ k + 1 = omega arith in
    sum-next (λ j. cond (digit_of n j) (2 ^ j) 0) k
    ∙ (let e : counted (digit_of n) k + cond (digit_of n k) (2 ^ k) 0 ≡ bit_at n k * 2 ^ k + n % 2 ^ k = omega (arith, before, one_digit (bit_at n k) (2 ^ k) (bit_at-lt n k)) in e)
    ∙ sym (mod-pow-add n 1 k)
    ∙ ap (λ j. n % 2 ^ j) at)
  where
    none : counted (digit_of n) 0 ≡ n % 2 ^ 0
    none = omega arith

-- a number of so many digits is what these count
pub all-digits : (n k : ℕ) → n < 2 ^ k → counted (digit_of n) k ≡ n
all-digits n k low = lowest n k ∙ mod-eq_of_lt low
