-- Where the pairs of members stand in their list.
use Rattle.std.proofs.Common.{◌≡◌, ℕ, zero, suc, ◌+◌, ◌-◌, ◌<◌, ◌≤◌, inl, inr, List, ◌++◌, length, map, subst, ◌∙◌, arith}
use Rattle.std.specs.List.{Contains, flat_map, range_with_len, enumerate_from, AllByRecursion}
use Rattle.std.proofs.lemmas.Bool.{cases_lt}
use Rattle.std.proofs.lemmas.List.{length-append, get_or_append_left, get_or-append-add}
use Rattle.std.proofs.lemmas.List.FromFn.{length-map-range_with_len, get_or-map-range_with_len}
use Rattle.placement_rows.proofs.Each.{each-numbered_at}
use Rattle.placement_strong.specs.Variables.{pairs}

in-left : {X : Type 0} (xs ys : List X) (x : X) → Contains xs x → Contains (xs ++ ys) x
in-left xs ys x at = (at.0, omega (arith, length-append xs ys, at.1), get_or_append_left xs ys x at.0 at.1 ∙ at.2)

in-right : {X : Type 0} (xs ys : List X) (x : X) → Contains ys x → Contains (xs ++ ys) x
in-right xs ys x at = (length xs + at.0, omega (arith, length-append xs ys, at.1), get_or-append-add xs ys at.0 x ∙ at.2)

in-pieces : {X : Type 0} (f : ℕ → List X) (s k a : ℕ) (x : X) → s ≤ a → a < s + k → Contains (f a) x → Contains (flat_map f (range_with_len s k)) x
in-pieces f s zero a x from to at = absurd (omega arith)
in-pieces f s (suc k) a x from to at = elim (cases_lt s a) [
  | inl above ↦ in-right (f s) (flat_map f (range_with_len (s + 1) k)) x (in-pieces f (s + 1) k a x (omega arith) (omega arith) at)
  | inr below ↦ in-left (f s) (flat_map f (range_with_len (s + 1) k)) x (subst (λ e. Contains (f e) x) (let e : a ≡ s = omega arith in e) at)
]

in-range : {X : Type 0} (f : ℕ → X) (s k b : ℕ) → s ≤ b → b < s + k → Contains (map f (range_with_len s k)) (f b)
in-range f s k b from to = (b - s, omega (arith, length-map-range_with_len f s k), get_or-map-range_with_len f s k (b - s) b (f b) (omega arith) (omega arith))

-- each pair is in the list
in-pairs : (k a b : ℕ) → a < b → b < k → Contains (pairs k) (a, b)
in-pairs k a b low high = in-pieces (λ a. map (λ b. (a, b)) (range_with_len (a + 1) (k - (a + 1)))) 0 k a (a, b) (omega arith) (omega arith) (in-range (λ b. (a, b)) (a + 1) (k - (a + 1)) b (omega arith) (omega arith))

-- what all numbered pairs have, a pair of two members has by its number
pub record Numbered (k : ℕ) (P : ℕ × (ℕ × ℕ) → Type 0) (a b : ℕ) : Type 0 where
  pub number : ℕ
  pub holds : P (number, (a, b))

pub pair-numbered : (k : ℕ) (P : ℕ × (ℕ × ℕ) → Type 0) → AllByRecursion P (enumerate_from 0 (pairs k)) → (a b : ℕ) → a < b → b < k → Numbered k P a b
pair-numbered k P all a b low high =
    let at = in-pairs k a b low high in
    record { number = 0 + at.0; holds = subst (λ ab. P (0 + at.0, ab)) at.2 (each-numbered_at P (a, b) 0 (pairs k) all at.0 at.1) }
