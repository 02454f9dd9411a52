-- Sums over lists: what is filtered, added, swapped, numbered.
use Rattle.std.proofs.Common.{◌≡◌, ℕ, zero, suc, ◌+◌, ◌<◌, ◌≤◌, inl, inr, Bool, true, false, cond, ◌==◌, List, [], ◌∷◌, ◌++◌, length, get_or, map, Option, Some, refl, sym, ap, subst, ◌*◌, ◌∙◌, arith}
use Rattle.std.specs.List.{sum_by, count_by, filter, find, flat_map, range_with_len, enumerate_from, zip, AllZip}
use Rattle.std.proofs.lemmas.List.{length-append, get_or_append_left, get_or-append-add}
use Rattle.std.proofs.lemmas.List.FromFn.{length-map-range_with_len, get_or-map-range_with_len}
use Rattle.std.proofs.lemmas.List.Sums.{sum_by-cons}
use Rattle.std.proofs.lemmas.Bool.{eq-eqb, ne_eqb, cases_order}

-- two functions that agree have the same sum
pub sum_by-agree : {X : Type 0} (f g : X → ℕ) → ((x : X) → f x ≡ g x) → (xs : List X) → sum_by f xs ≡ sum_by g xs
sum_by-agree f g same [] = refl
sum_by-agree f g same (x ∷ xs) = omega (arith, sum_by-cons f x xs, sum_by-cons g x xs, same x, sum_by-agree f g same xs)

sum_by-cond : {X : Type 0} (f : X → ℕ) (b : Bool) (x : X) (xs : List X) → sum_by f (cond b (x ∷ xs) xs) ≡ cond b (f x) 0 + sum_by f xs
sum_by-cond f true x xs = sum_by-cons f x xs
sum_by-cond f false x xs = omega arith

-- the sum over what passes a test is the sum over all, where what fails gives nothing
pub sum_by-filter : {X : Type 0} (f : X → ℕ) (p : X → Bool) (xs : List X) → sum_by f (filter p xs) ≡ sum_by (λ x. cond (p x) (f x) 0) xs
sum_by-filter f p [] = refl
sum_by-filter f p (x ∷ xs) =
    sum_by-cond f (p x) x (filter p xs)
    ∙ ap (λ s. cond (p x) (f x) 0 + s) (sum_by-filter f p xs)
    ∙ sym (sum_by-cons (λ x. cond (p x) (f x) 0) x xs)

both_ways : (a b : Bool) → ◌≡◌ {A = ℕ} (cond a (cond b 1 0) 0) (cond b (cond a 1 0) 0)
both_ways true true = refl
both_ways true false = refl
both_ways false true = refl
both_ways false false = refl

-- of two tests either may be the filter, and the other counts
pub count_by-filter_swap : {X : Type 0} (p q : X → Bool) (xs : List X) → count_by p (filter q xs) ≡ count_by q (filter p xs)
count_by-filter_swap p q xs =
    sum_by-filter (λ x. cond (p x) 1 0) q xs
    ∙ sum_by-agree (λ x. cond (q x) (cond (p x) 1 0) 0) (λ x. cond (p x) (cond (q x) 1 0) 0) (λ x. both_ways (q x) (p x)) xs
    ∙ sym (sum_by-filter (λ x. cond (q x) 1 0) p xs)

-- a sum of sums of two
pub sum_by-add : {X : Type 0} (f g : X → ℕ) (xs : List X) → sum_by (λ x. f x + g x) xs ≡ sum_by f xs + sum_by g xs
sum_by-add f g [] = refl
sum_by-add f g (x ∷ xs) = omega (arith, sum_by-cons (λ x. f x + g x) x xs, sum_by-cons f x xs, sum_by-cons g x xs, sum_by-add f g xs)

pub sum_by-none : {X : Type 0} (xs : List X) → sum_by (λ x. 0) xs ≡ 0
sum_by-none [] = refl
sum_by-none (x ∷ xs) = omega (arith, sum_by-cons (λ x. 0) x xs, sum_by-none xs)

-- sums over two lists may change places
pub sum_by-swap : {X Y : Type 0} (f : X → Y → ℕ) (xs : List X) (ys : List Y) → sum_by (λ y. sum_by (λ x. f x y) xs) ys ≡ sum_by (λ x. sum_by (f x) ys) xs
sum_by-swap f [] ys = sum_by-none ys
sum_by-swap f (x ∷ xs) ys =
    sum_by-agree (λ y. sum_by (λ x. f x y) (x ∷ xs)) (λ y. f x y + sum_by (λ x. f x y) xs) (λ y. sum_by-cons (λ x. f x y) x xs) ys
    ∙ sum_by-add (f x) (λ y. sum_by (λ x. f x y) xs) ys
    ∙ ap (λ s. sum_by (f x) ys + s) (sum_by-swap f xs ys)
    ∙ sym (sum_by-cons (λ x. sum_by (f x) ys) x xs)

-- two functions that agree on a range have the same sum over it
pub sum_by-range_agree : (f g : ℕ → ℕ) (s n : ℕ) → ((d : ℕ) → s ≤ d → d < s + n → f d ≡ g d) → sum_by f (range_with_len s n) ≡ sum_by g (range_with_len s n)
sum_by-range_agree f g s zero same = refl
sum_by-range_agree f g s (suc n) same =
    let here = same s (omega arith) (omega arith) in
    let rest = sum_by-range_agree f g (s + 1) n (λ d low high. same d (omega arith) (omega arith)) in
    omega (arith, here, rest, sum_by-cons f s (range_with_len (s + 1) n), sum_by-cons g s (range_with_len (s + 1) n))

range_past : (g : ℕ → ℕ) (at s n : ℕ) → at < s → sum_by (λ d. cond (at == d) (g d) 0) (range_with_len s n) ≡ 0
range_past g at s zero past = refl
range_past g at s (suc n) past =
    let here : cond (at == s) (g s) 0 ≡ 0 = ap (λ b. cond b (g s) 0) (ne_eqb at s (λ e. omega arith)) in
    omega (arith, here, sum_by-cons (λ d. cond (at == d) (g d) 0) s (range_with_len (s + 1) n), range_past g at (s + 1) n (omega arith))

-- the sum over a range where one number alone gives something
pub sum_by-one : (g : ℕ → ℕ) (at s n : ℕ) → s ≤ at → at < s + n → sum_by (λ d. cond (at == d) (g d) 0) (range_with_len s n) ≡ g at
sum_by-one g at s zero low high = absurd (omega arith)
sum_by-one g at s (suc n) low high = elim (cases_order at s) [
  | inl same ↦
      let here : cond (at == s) (g s) 0 ≡ g at = ap (λ b. cond b (g s) 0) (eq-eqb at s same) ∙ ap g (sym same) in
      omega (arith, here, sum_by-cons (λ d. cond (at == d) (g d) 0) s (range_with_len (s + 1) n), range_past g at (s + 1) n (omega arith))
  | inr other ↦
      let above : s < at = elim other [ inl below ↦ absurd (omega arith) | inr above ↦ above ] in
      let here : cond (at == s) (g s) 0 ≡ 0 = ap (λ b. cond b (g s) 0) (ne_eqb at s (λ e. omega arith)) in
      omega (arith, here, sum_by-cons (λ d. cond (at == d) (g d) 0) s (range_with_len (s + 1) n), sum_by-one g at (s + 1) n (omega arith) (omega arith))
]

-- a number of a range gives no more than the whole sum
pub le-sum_by-range : (f : ℕ → ℕ) (at s n : ℕ) → s ≤ at → at < s + n → f at ≤ sum_by f (range_with_len s n)
le-sum_by-range f at s zero low high = absurd (omega arith)
le-sum_by-range f at s (suc n) low high = elim (cases_order at s) [
  | inl same ↦ omega (arith, ap f same, sum_by-cons f s (range_with_len (s + 1) n))
  | inr other ↦
      let above : s < at = elim other [ inl below ↦ absurd (omega arith) | inr above ↦ above ] in
      omega (arith, sum_by-cons f s (range_with_len (s + 1) n), le-sum_by-range f at (s + 1) n (omega arith) (omega arith))
]

-- numbers up to one below n pass where no number from n on passes
pub filter-below : (p : ℕ → Bool) (s n : ℕ) → ((d : ℕ) → s ≤ d → d < s + n → p d ≡ false) → filter p (range_with_len s n) ≡ []
filter-below p s zero none = refl
filter-below p s (suc n) none =
    ap (λ b. cond b (s ∷ filter p (range_with_len (s + 1) n)) (filter p (range_with_len (s + 1) n))) (none s (omega arith) (omega arith))
    ∙ filter-below p (s + 1) n (λ d low high. none d (omega arith) (omega arith))

pub range-append : (s n k : ℕ) → range_with_len s (n + k) ≡ range_with_len s n ++ range_with_len (s + n) k
range-append s zero k =
    let count : zero + k ≡ k = omega arith in
    let start : s + zero ≡ s = omega arith in
    ap (λ m. range_with_len s m) count ∙ sym (ap (λ m. range_with_len m k) start)
range-append s (suc n) k =
    let count : suc n + k ≡ suc (n + k) = omega arith in
    let start : (s + 1) + n ≡ s + suc n = omega arith in
    ap (λ m. range_with_len s m) count
    ∙ ap (λ xs. s ∷ xs) (range-append (s + 1) n k ∙ ap (λ m. range_with_len (s + 1) n ++ range_with_len m k) start)

-- what numbered elements give is at most what they give beside the elements of another list
pub numbered-zip : {X Y : Type 0} (F : ℕ → X → ℕ) (H : X → Y → ℕ) (d : X) (e : Y) (a : ℕ) (xs : List X) (ys : List Y) → length xs ≡ length ys
    → ((k : ℕ) → k < length xs → F (a + k) (get_or xs k d) ≡ H (get_or xs k d) (get_or ys k e))
    → sum_by (λ ax. F ax.0 ax.1) (enumerate_from a xs) ≡ sum_by (λ pair. H pair.0 pair.1) (zip xs ys)
numbered-zip F H d e a [] ys long same = refl
numbered-zip F H d e a (x ∷ xs) [] long same = absurd (omega arith)
numbered-zip {X} {Y} F H d e a (x ∷ xs) (y ∷ ys) long same =
    let here : F a x ≡ H x y = ap (λ b. F b x) (omega arith) ∙ same 0 (omega arith) in
    let rest = numbered-zip F H d e (a + 1) xs ys (omega arith) (λ k h. ap (λ b. F b (get_or xs k d)) (omega arith) ∙ same (suc k) (omega arith)) in
    omega (arith, here, rest, sum_by-cons (λ (ax : ℕ × X). F ax.0 ax.1) (a, x) (enumerate_from (a + 1) xs), sum_by-cons (λ (pair : X × Y). H pair.0 pair.1) (x, y) (zip xs ys))

pub numbered-zip-le : {X Y : Type 0} (F : ℕ → X → ℕ) (H : X → Y → ℕ) (d : X) (e : Y) (a : ℕ) (xs : List X) (ys : List Y) → length xs ≡ length ys
    → ((k : ℕ) → k < length xs → H (get_or xs k d) (get_or ys k e) ≤ F (a + k) (get_or xs k d))
    → sum_by (λ pair. H pair.0 pair.1) (zip xs ys) ≤ sum_by (λ ax. F ax.0 ax.1) (enumerate_from a xs)
numbered-zip-le F H d e a [] ys long below = omega arith
numbered-zip-le F H d e a (x ∷ xs) [] long below = absurd (omega arith)
numbered-zip-le {X} {Y} F H d e a (x ∷ xs) (y ∷ ys) long below =
    let here : H x y ≤ F a x = omega (arith, below 0 (omega arith), ap (λ b. F b x) (let e : a + 0 ≡ a = omega arith in e)) in
    let rest = numbered-zip-le F H d e (a + 1) xs ys (omega arith) (λ k h. omega (arith, below (suc k) (omega arith), ap (λ b. F b (get_or xs k d)) (let e : a + suc k ≡ (a + 1) + k = omega arith in e))) in
    omega (arith, here, rest, sum_by-cons (λ (ax : ℕ × X). F ax.0 ax.1) (a, x) (enumerate_from (a + 1) xs), sum_by-cons (λ (pair : X × Y). H pair.0 pair.1) (x, y) (zip xs ys))

-- two tests that agree on a range keep the same numbers of it
pub filter-range_agree : (p q : ℕ → Bool) (s n : ℕ) → ((d : ℕ) → s ≤ d → d < s + n → p d ≡ q d) → filter p (range_with_len s n) ≡ filter q (range_with_len s n)
filter-range_agree p q s zero same = refl
filter-range_agree p q s (suc n) same =
    ap (λ ds. cond (p s) (s ∷ ds) ds) (filter-range_agree p q (s + 1) n (λ d low high. same d (omega arith) (omega arith)))
    ∙ ap (λ b. cond b (s ∷ filter q (range_with_len (s + 1) n)) (filter q (range_with_len (s + 1) n))) (same s (omega arith) (omega arith))

-- a number that passes two tests is counted
pub count_by-some : (p q : ℕ → Bool) (at n : ℕ) → at < n → q at ≡ true → p at ≡ true → 1 ≤ count_by p (filter q (range_with_len 0 n))
count_by-some p q at n low in' is =
    let one : ◌≡◌ {A = ℕ} (cond (q at) (cond (p at) 1 0) 0) 1 = ap (λ b. cond b (cond (p at) 1 0) 0) in' ∙ ap (λ b. cond b 1 0) is in
    omega (arith, one, sum_by-filter (λ d. cond (p d) 1 0) q (range_with_len 0 n), le-sum_by-range (λ d. cond (q d) (cond (p d) 1 0) 0) at 0 n (omega arith) (omega arith))

-- the length of blocks of one length
pub length-blocks : {Y A : Type 0} (g : Y → ℕ → A) (n : ℕ) (ys : List Y) → length (flat_map (λ y. map (g y) (range_with_len 0 n)) ys) ≡ length ys * n
length-blocks g n [] = omega arith
length-blocks g n (y ∷ ys) = omega (arith, length-append (map (g y) (range_with_len 0 n)) (flat_map (λ y. map (g y) (range_with_len 0 n)) ys), length-map-range_with_len (g y) 0 n, length-blocks g n ys)

-- an element of such a block
pub get_or-blocks : {Y A : Type 0} (g : Y → ℕ → A) (n : ℕ) (ys : List Y) (a d : ℕ) (e : Y) (z : A) → a < length ys → d < n → get_or (flat_map (λ y. map (g y) (range_with_len 0 n)) ys) (a * n + d) z ≡ g (get_or ys a e) d
get_or-blocks g n [] a d e z in' low = absurd (omega arith)
get_or-blocks g n (y ∷ ys) zero d e z in' low =
    let at : 0 * n + d ≡ d = omega arith in
    ap (λ i. get_or (map (g y) (range_with_len 0 n) ++ flat_map (λ y. map (g y) (range_with_len 0 n)) ys) i z) at
    ∙ get_or_append_left (map (g y) (range_with_len 0 n)) (flat_map (λ y. map (g y) (range_with_len 0 n)) ys) z d (omega (arith, length-map-range_with_len (g y) 0 n))
    ∙ get_or-map-range_with_len (g y) 0 n d d z low (omega arith)
get_or-blocks g n (y ∷ ys) (suc a) d e z in' low =
    let at : suc a * n + d ≡ n + (a * n + d) = omega arith in
    ap (λ i. get_or (map (g y) (range_with_len 0 n) ++ flat_map (λ y. map (g y) (range_with_len 0 n)) ys) i z) at
    ∙ ap (λ k. get_or (map (g y) (range_with_len 0 n) ++ flat_map (λ y. map (g y) (range_with_len 0 n)) ys) (k + (a * n + d)) z) (sym (length-map-range_with_len (g y) 0 n))
    ∙ get_or-append-add (map (g y) (range_with_len 0 n)) (flat_map (λ y. map (g y) (range_with_len 0 n)) ys) (a * n + d) z
    ∙ get_or-blocks g n ys a d e z (omega arith) low

-- a relation between two lists, at a place
pub zip_long : {X Y : Type 0} (R : X → Y → Type 0) (xs : List X) (ys : List Y) → AllZip R xs ys → length xs ≡ length ys
zip_long R [] [] all = refl
zip_long R [] (y ∷ ys) all = absurd all
zip_long R (x ∷ xs) [] all = absurd all
zip_long R (x ∷ xs) (y ∷ ys) all = ap suc (zip_long R xs ys all.1)

pub zip_at : {X Y : Type 0} (R : X → Y → Type 0) (d : X) (e : Y) (xs : List X) (ys : List Y) → AllZip R xs ys → (k : ℕ) → k < length xs → R (get_or xs k d) (get_or ys k e)
zip_at R d e [] ys all k h = absurd (omega arith)
zip_at R d e (x ∷ xs) [] all k h = absurd all
zip_at R d e (x ∷ xs) (y ∷ ys) all zero h = all.0
zip_at R d e (x ∷ xs) (y ∷ ys) all (suc k) h = zip_at R d e xs ys all.1 k (omega arith)

-- a relation between elements and what a function gives of them, numbered
pub zip_numbered : {X Y : Type 0} (R : X → Y → Type 0) (g : ℕ × X → Y) (d : X) (a : ℕ) (xs : List X) → ((k : ℕ) → k < length xs → R (get_or xs k d) (g (a + k, get_or xs k d))) → AllZip R xs (map g (enumerate_from a xs))
zip_numbered R g d a [] each = tt
zip_numbered R g d a (x ∷ xs) each = (
  subst (λ b. R x (g (b, x))) (let e : a + 0 ≡ a = omega arith in e) (each 0 (omega arith)),
  zip_numbered R g d (a + 1) xs (λ k h. subst (λ b. R (get_or xs k d) (g (b, get_or xs k d))) (let e : a + suc k ≡ (a + 1) + k = omega arith in e) (each (suc k) (omega arith))),
)

-- a search among the numbers of a range that pass a test has found one
pub record Found (p q : ℕ → Bool) (s n : ℕ) (found : Option ℕ) : Type 0 where
  pub at : ℕ
  pub is : found ≡ Some at
  pub low : s ≤ at
  pub high : at < s + n
  pub among : q at ≡ true
  pub passes : p at ≡ true

found_in : (p q : ℕ → Bool) (s n : ℕ) (b c : Bool) (rest : List ℕ) → q s ≡ b → p s ≡ c → (1 ≤ count_by p rest → Found p q (s + 1) n (find p rest)) → 1 ≤ count_by p (cond b (s ∷ rest) rest) → Found p q s (suc n) (find p (cond b (s ∷ rest) rest))
found_in p q s n true true rest e f later many =
    record { at = s; is = ap (λ t. cond t (Some s) (find p rest)) f; low = omega arith; high = omega arith; among = e; passes = f }
found_in p q s n true false rest e f later many =
    let none : ◌≡◌ {A = ℕ} (cond (p s) 1 0) 0 = ap (λ t. cond t 1 0) f in
    let r : Found p q (s + 1) n (find p rest) = later (omega (arith, none, sum_by-cons (λ d. cond (p d) 1 0) s rest)) in
    record { at = r.at; is = ap (λ t. cond t (Some s) (find p rest)) f ∙ r.is; low = omega (arith, r.low); high = omega (arith, r.high); among = r.among; passes = r.passes }
found_in p q s n false c rest e f later many =
    let r : Found p q (s + 1) n (find p rest) = later many in
    record { at = r.at; is = r.is; low = omega (arith, r.low); high = omega (arith, r.high); among = r.among; passes = r.passes }

-- where some number passes both tests, the search finds one
pub find-some : (p q : ℕ → Bool) (s n : ℕ) → 1 ≤ count_by p (filter q (range_with_len s n)) → Found p q s n (find p (filter q (range_with_len s n)))
find-some p q s zero many = absurd (omega arith)
find-some p q s (suc n) many = found_in p q s n (q s) (p s) (filter q (range_with_len (s + 1) n)) refl refl (λ later. find-some p q (s + 1) n later) many
