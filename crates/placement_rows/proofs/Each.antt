-- A fact of each element of a list, by the way in which the list is made.
use Rattle.std.proofs.Common.{◌≡◌, ℕ, zero, suc, ◌+◌, ◌<◌, ◌≤◌, Bool, true, false, cond, ◌||◌, List, [], ◌∷◌, ◌++◌, length, get_or, map, refl, ap, subst, ◌∙◌, inl, inr, arith}
use Rattle.std.specs.List.{filter, list_any, range_with_len, AllByRecursion, flat_map, enumerate_from}
use Rattle.std.proofs.lemmas.Bool.{cases_lt}

-- a fact of each element of two lists, joined
pub each-append : {X : Type 0} (P : X → Type 0) (xs ys : List X) → AllByRecursion P xs → AllByRecursion P ys → AllByRecursion P (xs ++ ys)
each-append P [] ys a b = b
each-append P (x ∷ xs) ys a b = (a.0, each-append P xs ys a.1 b)

pub each-split : {X : Type 0} (P : X → Type 0) (xs ys : List X) → AllByRecursion P (xs ++ ys) → AllByRecursion P xs × AllByRecursion P ys
each-split P [] ys a = (tt, a)
each-split P (x ∷ xs) ys a = let rest = each-split P xs ys a.1 in ((a.0, rest.0), rest.1)

-- a fact of what a function gives of each element
pub each-map : {X Y : Type 0} (P : Y → Type 0) (Q : X → Type 0) (f : X → Y) → ((x : X) → Q x → P (f x)) → (xs : List X) → AllByRecursion Q xs → AllByRecursion P (map f xs)
each-map P Q f step [] a = tt
each-map P Q f step (x ∷ xs) a = (step x a.0, each-map P Q f step xs a.1)

pub each-map_back : {X Y : Type 0} (P : Y → Type 0) (Q : X → Type 0) (f : X → Y) → ((x : X) → P (f x) → Q x) → (xs : List X) → AllByRecursion P (map f xs) → AllByRecursion Q xs
each-map_back P Q f step [] a = tt
each-map_back P Q f step (x ∷ xs) a = (step x a.0, each-map_back P Q f step xs a.1)

pub each-flat_map : {X Y : Type 0} (P : Y → Type 0) (Q : X → Type 0) (f : X → List Y) → ((x : X) → Q x → AllByRecursion P (f x)) → (xs : List X) → AllByRecursion Q xs → AllByRecursion P (flat_map f xs)
each-flat_map P Q f step [] a = tt
each-flat_map P Q f step (x ∷ xs) a = each-append P (f x) (flat_map f xs) (step x a.0) (each-flat_map P Q f step xs a.1)

pub each-flat_map_back : {X Y : Type 0} (P : Y → Type 0) (Q : X → Type 0) (f : X → List Y) → ((x : X) → AllByRecursion P (f x) → Q x) → (xs : List X) → AllByRecursion P (flat_map f xs) → AllByRecursion Q xs
each-flat_map_back P Q f step [] a = tt
each-flat_map_back P Q f step (x ∷ xs) a =
    let parts = each-split P (f x) (flat_map f xs) a in
    (step x parts.0, each-flat_map_back P Q f step xs parts.1)

-- a fact of each number of a range
pub each-range : (P : ℕ → Type 0) (s n : ℕ) → ((d : ℕ) → s ≤ d → d < s + n → P d) → AllByRecursion P (range_with_len s n)
each-range P s zero f = tt
each-range P s (suc n) f = (f s (omega arith) (omega arith), each-range P (s + 1) n (λ d low high. f d (omega arith) (omega arith)))

pub each-range_at : (P : ℕ → Type 0) (s n : ℕ) → AllByRecursion P (range_with_len s n) → (d : ℕ) → s ≤ d → d < s + n → P d
each-range_at P s zero a d low high = absurd (omega arith)
each-range_at P s (suc n) a d low high = elim (cases_lt s d) [
  | inl above ↦ each-range_at P (s + 1) n a.1 d (omega arith) (omega arith)
  | inr below ↦ subst P (let e : s ≡ d = omega arith in e) a.0
]

-- a fact of each numbered element
pub each-numbered : {X : Type 0} (P : ℕ × X → Type 0) (d : X) (a : ℕ) (xs : List X) → ((k : ℕ) → k < length xs → P (a + k, get_or xs k d)) → AllByRecursion P (enumerate_from a xs)
each-numbered P d a [] f = tt
each-numbered P d a (x ∷ xs) f = (
  subst (λ b. P (b, x)) (let e : a + 0 ≡ a = omega arith in e) (f 0 (omega arith)),
  each-numbered P d (a + 1) xs (λ k h. subst (λ b. P (b, get_or xs k d)) (let e : a + suc k ≡ (a + 1) + k = omega arith in e) (f (suc k) (omega arith))),
)

pub each-numbered_at : {X : Type 0} (P : ℕ × X → Type 0) (d : X) (a : ℕ) (xs : List X) → AllByRecursion P (enumerate_from a xs) → (k : ℕ) → k < length xs → P (a + k, get_or xs k d)
each-numbered_at P d a [] all k h = absurd (omega arith)
each-numbered_at P d a (x ∷ xs) all zero h = subst (λ b. P (b, x)) (let e : a ≡ a + 0 = omega arith in e) all.0
each-numbered_at P d a (x ∷ xs) all (suc k) h =
    subst (λ b. P (b, get_or xs k d)) (let e : (a + 1) + k ≡ a + suc k = omega arith in e) (each-numbered_at P d (a + 1) xs all.1 k (omega arith))

-- a weaker fact of each element
pub each-weaker : {X : Type 0} (P Q : X → Type 0) → ((x : X) → P x → Q x) → (xs : List X) → AllByRecursion P xs → AllByRecursion Q xs
each-weaker P Q step [] a = tt
each-weaker P Q step (x ∷ xs) a = (step x a.0, each-weaker P Q step xs a.1)

-- a fact of each number of a range that passes a test
each-if : (P : ℕ → Type 0) (b : Bool) (d : ℕ) (ds : List ℕ) → (b ≡ true → P d) → AllByRecursion P ds → AllByRecursion P (cond b (d ∷ ds) ds)
each-if P true d ds here rest = (here refl, rest)
each-if P false d ds here rest = rest

each-if_back : (P : ℕ → Type 0) (b : Bool) (d : ℕ) (ds : List ℕ) → AllByRecursion P (cond b (d ∷ ds) ds) → (b ≡ true → P d) × AllByRecursion P ds
each-if_back P true d ds all = (λ is. all.0, all.1)
each-if_back P false d ds all = (λ is. cc, all)

pub each-kept : (P : ℕ → Type 0) (q : ℕ → Bool) (s n : ℕ) → ((d : ℕ) → s ≤ d → d < s + n → q d ≡ true → P d) → AllByRecursion P (filter q (range_with_len s n))
each-kept P q s zero f = tt
each-kept P q s (suc n) f =
    each-if P (q s) s (filter q (range_with_len (s + 1) n)) (f s (omega arith) (omega arith)) (each-kept P q (s + 1) n (λ d low high. f d (omega arith) (omega arith)))

pub each-kept_at : (P : ℕ → Type 0) (q : ℕ → Bool) (s n : ℕ) → AllByRecursion P (filter q (range_with_len s n)) → (d : ℕ) → s ≤ d → d < s + n → q d ≡ true → P d
each-kept_at P q s zero all d low high is = absurd (omega arith)
each-kept_at P q s (suc n) all d low high is =
    let parts = each-if_back P (q s) s (filter q (range_with_len (s + 1) n)) all in
    elim (cases_lt s d) [
      | inl above ↦ each-kept_at P q (s + 1) n parts.1 d (omega arith) (omega arith) is
      | inr below ↦
          let same : s ≡ d = omega arith in
          subst P same (parts.0 (ap q same ∙ is))
    ]

-- what holds of each element that passes a test holds where some element passes it
any-either : {X : Type 0} (t : X → Bool) (Q : Type 0) (x : X) (xs : List X) (b : Bool) → t x ≡ b → (t x ≡ true → Q) → (list_any t xs ≡ true → Q) → (b || list_any t xs) ≡ true → Q
any-either t Q x xs true e here later is = here e
any-either t Q x xs false e here later is = later is

pub any-each : {X : Type 0} (t : X → Bool) (P : X → Type 0) (Q : Type 0) → ((x : X) → P x → t x ≡ true → Q) → (xs : List X) → AllByRecursion P xs → list_any t xs ≡ true → Q
any-each t P Q each [] all is = cc
any-each t P Q each (x ∷ xs) all is = any-either t Q x xs (t x) refl (each x all.0) (any-each t P Q each xs all.1) is
