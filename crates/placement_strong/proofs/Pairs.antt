-- The pairs of members: how many there are, and whose they are.
use Rattle.std.proofs.Common.{◌≡◌, ℕ, zero, suc, ◌+◌, ◌-◌, ◌*◌, ◌/◌, ◌<◌, ◌≤◌, List, length, get_or, map, refl, sym, ap, subst, arith}
use Rattle.std.specs.Prelude.{All}
use Rattle.std.specs.List.{range_with_len, AllByRecursion}
use Rattle.std.proofs.lemmas.List.Elements.{All-from_recursion}
use Rattle.placement_rows.proofs.Each.{each-map, each-flat_map, each-range, each-weaker}
use Rattle.placement_strong.specs.Variables.{pairs}

-- few members have so many pairs
pub length-pairs : (k : ℕ) → k ≤ 8 → length (pairs k) ≡ (k * k - k) / 2
length-pairs zero few = refl
length-pairs (suc zero) few = refl
length-pairs (suc (suc zero)) few = refl
length-pairs (suc (suc (suc zero))) few = refl
length-pairs (suc (suc (suc (suc zero)))) few = refl
length-pairs (suc (suc (suc (suc (suc zero))))) few = refl
length-pairs (suc (suc (suc (suc (suc (suc zero)))))) few = refl
length-pairs (suc (suc (suc (suc (suc (suc (suc zero))))))) few = refl
length-pairs (suc (suc (suc (suc (suc (suc (suc (suc zero)))))))) few = refl
length-pairs (suc (suc (suc (suc (suc (suc (suc (suc (suc k))))))))) few = absurd (omega arith)

pub counted-pairs : (k : ℕ) → k ≤ 8 → (k * k - k) / 2 ≡ length (pairs k)
counted-pairs k few = sym (length-pairs k few)

pub ruleset counts = (counted-pairs)

pub few-pairs : (k : ℕ) → k ≤ 8 → length (pairs k) ≤ 28
few-pairs zero few = omega arith
few-pairs (suc zero) few = omega arith
few-pairs (suc (suc zero)) few = omega arith
few-pairs (suc (suc (suc zero))) few = omega arith
few-pairs (suc (suc (suc (suc zero)))) few = omega arith
few-pairs (suc (suc (suc (suc (suc zero))))) few = omega arith
few-pairs (suc (suc (suc (suc (suc (suc zero)))))) few = omega arith
few-pairs (suc (suc (suc (suc (suc (suc (suc zero))))))) few = omega arith
few-pairs (suc (suc (suc (suc (suc (suc (suc (suc zero)))))))) few = omega arith
few-pairs (suc (suc (suc (suc (suc (suc (suc (suc (suc k))))))))) few = absurd (omega arith)

-- the first of a pair comes before the second, which is one of the members
pub record IsPair (k : ℕ) (ab : ℕ × ℕ) : Type 0 where
  pub rises : ab.0 < ab.1
  pub low : ab.1 < k

pub each-pair : (k : ℕ) → AllByRecursion (IsPair k) (pairs k)
each-pair k =
    each-flat_map (IsPair k) (λ a. a < k) (λ a. map (λ b. (a, b)) (range_with_len (a + 1) (k - (a + 1))))
    (λ a low. each-map (IsPair k) (λ b. (a < b) × (b < k)) (λ b. (a, b)) (λ b in'. record { rises = in'.0; low = in'.1 }) (range_with_len (a + 1) (k - (a + 1)))
    (each-range (λ b. (a < b) × (b < k)) (a + 1) (k - (a + 1)) (λ b from to. (omega arith, omega arith))))
    (range_with_len 0 k) (each-range (λ a. a < k) 0 k (λ a from to. omega arith))

-- the pair at a place of the list
pub pair_at : (k : ℕ) (list : List (ℕ × ℕ)) → list ≡ pairs k → (i : ℕ) → i < length list → IsPair k (get_or list i (0, 0))
pair_at k list is i in' = subst (λ (ps : List (ℕ × ℕ)). IsPair k (get_or ps i (0, 0))) (sym is) (All-from_recursion (IsPair k) (pairs k) (each-pair k) i (0, 0) (omega (arith, ap length is, in')))

pub place_at : (k : ℕ) → k ≤ 8 → (list : List (ℕ × ℕ)) → list ≡ pairs k → (i : ℕ) → i < length list → i < 28
place_at k few list is i in' = omega (arith, in', ap length is, few-pairs k few)

-- both of each pair are members
pub pairs_below : (k n : ℕ) (list : List (ℕ × ℕ)) → list ≡ pairs k → k ≡ n → All (λ ab. (ab.0 < n) × (ab.1 < n)) list
pairs_below k n list is same =
    let P : ℕ × ℕ → Type 0 = λ ab. (ab.0 < n) × (ab.1 < n) in
    subst (All P) (sym is) (All-from_recursion P (pairs k) (each-weaker (IsPair k) P (λ ab p. (omega (arith, p.rises, p.low, same), omega (arith, p.low, same))) (pairs k) (each-pair k)))
