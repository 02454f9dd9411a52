use Rattle.std.proofs.Common.{ℕ, ◌+◌, ◌*◌, ◌≤◌, ◌<◌, ◌^◌, arith, inl, inr, rules, ◌≡◌, lit<, add-one}
use Rattle.std.proofs.Math.Nat.{pow-le-pow_right, pow-suc}
use Rattle.std.proofs.lemmas.Bool.{cases_lt}
use Rattle.std.proofs.lemmas.Nat.{leading_length}
use Rattle.primal_dual.proofs.parts.bits.Goals as goal

few_bits : (m k a : ℕ) → 2 ^ m ≤ 2 * a + 1 → a < 2 ^ k → m ≤ k
few_bits m k a full small =
    elim (cases_lt k m) [
      | inl past ↦
          let up : 2 ^ (k + 1) ≤ 2 ^ m = pow-le-pow_right (lit< tt) (omega arith) in
          let twice : 2 ^ (k + 1) ≡ 2 ^ k * 2 = rw add-one (pow-suc 2 k) in
          absurd (omega (arith, up, twice, full, small))
      | inr within ↦ within
    ]

pub returns-clause-least : goal.returns-clause-least
returns-clause-least c = λ k small.
    let length = leading_length 128 c.args.number (search rules) in
    let few = few_bits length.0 k c.args.number length.3 small in
    omega (arith, length.1, few)
