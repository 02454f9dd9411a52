use Rattle.std.proofs.Common.{◌≡◌, ℕ, ◌+◌, ◌<◌, ◌≤◌, inl, inr, List, length, get_or, map, arith}
use Rattle.std.specs.List.Sorted.{IsStrictlyIncreasing}
use Rattle.std.proofs.lemmas.List.{get_or-map, length-map}
use Rattle.std.proofs.lemmas.Bool.{cases_lt}

-- what is read of the first elements rises strictly
abbrev pub RisesBelow : {X : Type 0} → (X → ℕ) → List X → ℕ → Type 0
RisesBelow f xs i = (k : ℕ) → k + 1 < i → get_or (map f xs) k 0 < get_or (map f xs) (k + 1) 0

-- one more element
pub rises_more : {X : Type 0} (f : X → ℕ) (xs : List X) (i j : ℕ) (d : X) → j + 1 ≡ i → i < length xs → RisesBelow f xs i → f (get_or xs j d) < f (get_or xs i d) → RisesBelow f xs (i + 1)
rises_more f xs i j d e inside below above k h =
    elim (cases_lt (k + 1) i) [
      | inl lt ↦ below k lt
      | inr ge ↦
          let kj : k ≡ j = omega arith in
          let jn : j < length xs = omega arith in
          rw (kj, e, get_or-map f xs j d 0 jn, get_or-map f xs i d 0 inside) above
    ]

-- a place where it doesn't rise
pub rises_not : {X : Type 0} (f : X → ℕ) (xs : List X) (i j : ℕ) (d : X) → j + 1 ≡ i → i < length xs → f (get_or xs i d) ≤ f (get_or xs j d) → ¬ IsStrictlyIncreasing (map f xs)
rises_not f xs i j d e inside at_most rising =
    let jn : j < length xs = omega arith in
    let here : j + 1 < length (map f xs) = rw (length-map, e) inside in
    let lt = rising j here in
    let lt' = rw (e, get_or-map f xs j d 0 jn, get_or-map f xs i d 0 inside) at lt in
    omega arith

pub rises_all : {X : Type 0} (f : X → ℕ) (xs : List X) (i : ℕ) → length xs ≤ i → RisesBelow f xs i → IsStrictlyIncreasing (map f xs)
rises_all f xs i h below k inside = below k (let here : k + 1 < length xs = rw length-map at inside in omega arith)
