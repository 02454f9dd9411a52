-- Lists whose keys rise strictly from a number on.
use Rattle.std.proofs.Common.{◌≡◌, ℕ, zero, suc, ◌+◌, ◌<◌, ◌≤◌, inl, inr, Bool, true, false, cond, List, [], ◌∷◌, ◌++◌, length, map, sym, ap, subst, arith}
use Rattle.std.specs.Prelude.{⊤, ◌⊎◌, slice_index}
use Rattle.std.specs.List.{filter, range_with_len, enumerate_from, AllByRecursion}
use Rattle.std.specs.List.Sorted.{IsStrictlyIncreasing}
use Rattle.std.proofs.lemmas.Bool.{cases_lt}

-- the keys rise strictly, and none is below `low`
pub Rises : {X : Type 0} → (X → ℕ) → ℕ → List X → Type 0
Rises key low [] = ⊤
Rises key low (x ∷ xs) = (low ≤ key x) × Rises key (key x + 1) xs

pub rises-none : {X : Type 0} (key : X → ℕ) (low : ℕ) → Rises key low []
unfolding Rises
rises-none key low = tt

pub rises-one : {X : Type 0} (key : X → ℕ) (low : ℕ) (x : X) (xs : List X) → low ≤ key x → Rises key (key x + 1) xs → Rises key low (x ∷ xs)
unfolding Rises
rises-one key low x xs first rest = (first, rest)

pub rises-lower : {X : Type 0} (key : X → ℕ) (low less : ℕ) (xs : List X) → less ≤ low → Rises key low xs → Rises key less xs
unfolding Rises
rises-lower key low less [] h rises = tt
rises-lower key low less (x ∷ xs) h rises = (let first = rises.0 in omega arith, rises.1)

pub rises-append : {X : Type 0} (key : X → ℕ) (low mid : ℕ) (xs ys : List X) → low ≤ mid → Rises key low xs → AllByRecursion (λ x. key x < mid) xs → Rises key mid ys → Rises key low (xs ++ ys)
unfolding Rises
rises-append key low mid [] ys h rises below rest = rises-lower key mid low ys h rest
rises-append key low mid (x ∷ xs) ys h rises below rest = (rises.0, rises-append key (key x + 1) mid xs ys (let first = below.0 in omega arith) rises.1 below.1 rest)

pub rises-filter : {X : Type 0} (key : X → ℕ) (p : X → Bool) (low : ℕ) (xs : List X) → Rises key low xs → Rises key low (filter p xs)
unfolding Rises
rises-filter key p low [] rises = tt
rises-filter key p low (x ∷ xs) rises = by (p x) (rises-filter key p (key x + 1) xs rises.1)
  where
    by : (b : Bool) → Rises key (key x + 1) (filter p xs) → Rises key low (cond b (x ∷ filter p xs) (filter p xs))
    by true rest = (rises.0, rest)
    by false rest = rises-lower key (key x + 1) low (filter p xs) (let first = rises.0 in omega arith) rest

-- what is made of elements, with keys that are so much further up
pub rises-map : {X Y : Type 0} (key : X → ℕ) (other : Y → ℕ) (f : X → Y) (more : ℕ) → ((x : X) → other (f x) ≡ more + key x) → (low : ℕ) (xs : List X) → Rises key low xs → Rises other (more + low) (map f xs)
unfolding Rises
rises-map key other f more same low [] rises = tt
rises-map key other f more same low (x ∷ xs) rises = (
  let first = rises.0 in omega (arith, same x),
  subst (λ n. Rises other n (map f xs)) (let e : more + (key x + 1) ≡ other (f x) + 1 = omega (arith, same x) in e) (rises-map key other f more same (key x + 1) xs rises.1),
)

-- what is made of numbered elements, with keys that rise with the numbers
pub rises-numbered : {X Y : Type 0} (key : Y → ℕ) (f : ℕ × X → Y) (v : ℕ → ℕ) → ((a : ℕ) (x : X) → key (f (a, x)) ≡ v a) → ((a : ℕ) → v a < v (a + 1)) → (low a : ℕ) (xs : List X) → low ≤ v a → Rises key low (map f (enumerate_from a xs))
unfolding Rises
rises-numbered key f v same up low a [] h = tt
rises-numbered key f v same up low a (x ∷ xs) h = (
  omega (arith, same a x),
  subst (λ n. Rises key n (map f (enumerate_from (a + 1) xs))) (ap (λ n. n + 1) (sym (same a x))) (rises-numbered key f v same up (v a + 1) (a + 1) xs (let more = up a in omega arith)),
)

-- and of the numbers of a range
pub rises-range : {Y : Type 0} (key : Y → ℕ) (f : ℕ → Y) (first : ℕ) → ((j : ℕ) → key (f j) ≡ first + j) → (s n : ℕ) → Rises key (first + s) (map f (range_with_len s n))
unfolding Rises
rises-range key f first same s zero = tt
rises-range key f first same s (suc n) = (
  omega (arith, same s),
  subst (λ k. Rises key k (map f (range_with_len (s + 1) n))) (let e : first + (s + 1) ≡ key (f s) + 1 = omega (arith, same s) in e) (rises-range key f first same (s + 1) n),
)

first_above : {X : Type 0} (key : X → ℕ) (low : ℕ) (xs : List X) → Rises key low xs → 0 < length (map key xs) → low ≤ slice_index (map key xs) 0
unfolding Rises
first_above key low [] rises some = absurd (omega arith)
first_above key low (x ∷ xs) rises some = rises.0

cons_rises : (z : ℕ) (ys : List ℕ) → (0 < length ys → z < slice_index ys 0) → IsStrictlyIncreasing ys → IsStrictlyIncreasing (z ∷ ys)
cons_rises z ys above rising zero inside = above (omega arith)
cons_rises z ys above rising (suc k) inside =
    let at : suc (k + 1) ≡ suc k + 1 = omega arith in
    subst (λ i. slice_index ys k < slice_index (z ∷ ys) i) at (rising k (omega arith))

pub increasing : {X : Type 0} (key : X → ℕ) (low : ℕ) (xs : List X) → Rises key low xs → IsStrictlyIncreasing (map key xs)
unfolding Rises
increasing key low [] rises = λ k inside. absurd (omega arith)
increasing key low (x ∷ xs) rises =
    cons_rises (key x) (map key xs) (λ some. let first = first_above key (key x + 1) xs rises.1 some in omega arith) (increasing key (key x + 1) xs rises.1)

-- and back
tail_rises : (z : ℕ) (ys : List ℕ) → IsStrictlyIncreasing (z ∷ ys) → IsStrictlyIncreasing ys
tail_rises z ys rising k inside =
    let at : suc (k + 1) ≡ suc k + 1 = omega arith in
    subst (λ i. slice_index ys k < slice_index (z ∷ ys) i) (sym at) (rising (suc k) (omega arith))

pub rising-back : {X : Type 0} (key : X → ℕ) (low : ℕ) (xs : List X) → (0 < length xs → low ≤ slice_index (map key xs) 0) → IsStrictlyIncreasing (map key xs) → Rises key low xs
unfolding Rises
rising-back key low [] first rising = tt
rising-back {X} key low (x ∷ xs) first rising = (first (omega arith), rising-back key (key x + 1) xs (next xs rising) (tail_rises (key x) (map key xs) rising))
  where
    next : (ys : List X) → IsStrictlyIncreasing (map key (x ∷ ys)) → 0 < length ys → key x + 1 ≤ slice_index (map key ys) 0
    next [] up some = absurd (omega arith)
    next (y ∷ ys) up some = let step = up 0 (omega arith) in omega arith

-- whether numbers rise
pub rise-or-not : (ys : List ℕ) → IsStrictlyIncreasing ys ⊎ ¬ (IsStrictlyIncreasing ys)
rise-or-not [] = inl (λ k inside. absurd (omega arith))
rise-or-not (y ∷ []) = inl (λ k inside. absurd (omega arith))
rise-or-not (y ∷ z ∷ zs) = elim (cases_lt y z) [
  | inl up ↦ elim (rise-or-not (z ∷ zs)) [
    | inl rising ↦ inl (cons_rises y (z ∷ zs) (λ some. up) rising)
    | inr not ↦ inr (λ rising. not (tail_rises y (z ∷ zs) rising))
  ]
  | inr down ↦ inr (λ rising. let step = rising 0 (omega arith) in omega arith)
]
