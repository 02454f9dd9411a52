-- Products of a natural number and a signed one.
use Rattle.std.proofs.Common.{◌≡◌, ℕ, ◌+◌, ◌*◌, ◌≤◌, ℤ, pos, ◌+ℤ◌, ◌*ℤ◌, ◌≤ℤ◌, ap, arith}
use Rattle.std.proofs.Math.Nat.{mul-le-mul_left}
use Rattle.std.proofs.lemmas.Int.{ints}
use borrow.Author.Differences.{up, down, sum_is_lem}

pub scale_add : (n : ℕ) (a b : ℤ) → pos n *ℤ (a +ℤ b) ≡ pos n *ℤ a +ℤ pos n *ℤ b
scale_add n a b = omega (arith, ints, ap (λ z. n * z) (sum_is_lem a b))

pub scale_zero : (n : ℕ) → pos n *ℤ pos 0 ≡ pos 0
scale_zero n = omega (arith, ints)

pub scale_pos : (m n : ℕ) → pos m *ℤ pos n ≡ pos (m * n)
scale_pos m n = omega (arith, ints)

pub scale_mono : (n : ℕ) (a b : ℤ) → a ≤ℤ b → (pos n *ℤ a) ≤ℤ (pos n *ℤ b)
scale_mono n a b h =
    let parts : up a + down b ≤ up b + down a = omega (arith, ints, h) in
    let scaled : n * (up a + down b) ≤ n * (up b + down a) = mul-le-mul_left n parts in
    omega (arith, ints, scaled)
