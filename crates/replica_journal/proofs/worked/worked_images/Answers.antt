use Rattle.std.proofs.Common.{ℕ, ◌≡◌, List, [], ◌∷◌, length, take, refl, sym, ap, arith}
use Rattle.replica_journal.proofs.worked.worked_images.Goals as goal

first : List ℕ → ℕ
first [] = 0
first (x ∷ xs) = x

apart : (xs : List ℕ) → xs ≡ 0 ∷ [] → xs ≡ 1 ∷ [] → ⊥
unfolding first
apart xs a b = omega (arith, ap first a, ap first b)

pub returns : goal.returns
returns c = record {
  reads = refl;
  short = (1 ∷ 2 ∷ [], refl, record { before = refl; after = refl; no_shorter = omega arith; no_longer = omega arith });
  long = (1 ∷ 2 ∷ [], refl, record { before = refl; after = refl; no_shorter = omega arith; no_longer = omega arith });
  outside = λ is. apart (take 1 is.0) (sym is.2.before) (ap (take 1) is.1);
  too_short = λ is. omega (arith, is.2.no_shorter, ap length is.1);
}
