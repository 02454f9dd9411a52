-- Sums that grow with what is added, and counts of at most one.
use Rattle.std.proofs.Common.{◌≡◌, ℕ, zero, suc, ◌+◌, ◌<◌, ◌≤◌, Bool, true, false, cond, ◌||◌, List, [], ◌∷◌, length, get_or, map, refl, ap, ◌∙◌, arith}
use Rattle.std.specs.List.{sum_by, count_by, list_any, range_with_len, enumerate_from, AllByRecursion}
use Rattle.std.proofs.lemmas.List.Sums.{sum_by-cons}

pub cond-le : (b c : Bool) (v : ℕ) → (b ≡ true → c ≡ true) → cond b v 0 ≤ cond c v 0
cond-le true true v h = omega arith
cond-le true false v h = let e = h refl in cc
cond-le false true v h = omega arith
cond-le false false v h = omega arith

pub sum_by-le_each : {X : Type 0} (f g : X → ℕ) → ((x : X) → f x ≤ g x) → (xs : List X) → sum_by f xs ≤ sum_by g xs
sum_by-le_each f g below [] = omega arith
sum_by-le_each f g below (x ∷ xs) = omega (arith, below x, sum_by-cons f x xs, sum_by-cons g x xs, sum_by-le_each f g below xs)

pub sum_by-range_le : (f g : ℕ → ℕ) (s n : ℕ) → ((d : ℕ) → s ≤ d → d < s + n → f d ≤ g d) → sum_by f (range_with_len s n) ≤ sum_by g (range_with_len s n)
sum_by-range_le f g s zero below = omega arith
sum_by-range_le f g s (suc n) below =
    omega (arith, below s (omega arith) (omega arith), sum_by-cons f s (range_with_len (s + 1) n), sum_by-cons g s (range_with_len (s + 1) n), sum_by-range_le f g (s + 1) n (λ d low high. below d (omega arith) (omega arith)))

pub sum_by-numbered_le : {X : Type 0} (F G : ℕ × X → ℕ) (d : X) (a : ℕ) (xs : List X) → ((k : ℕ) → k < length xs → F (a + k, get_or xs k d) ≤ G (a + k, get_or xs k d)) → sum_by F (enumerate_from a xs) ≤ sum_by G (enumerate_from a xs)
sum_by-numbered_le F G d a [] below = omega arith
sum_by-numbered_le F G d a (x ∷ xs) below =
    let zero_at : a + 0 ≡ a = omega arith in
    let here : F (a, x) ≤ G (a, x) = omega (arith, below 0 (omega arith), ap (λ b. F (b, x)) zero_at, ap (λ b. G (b, x)) zero_at) in
    let rest = sum_by-numbered_le F G d (a + 1) xs (λ k h.
    let at : a + suc k ≡ (a + 1) + k = omega arith in
    omega (arith, below (suc k) (omega arith), ap (λ b. F (b, get_or xs k d)) at, ap (λ b. G (b, get_or xs k d)) at)) in
    omega (arith, here, rest, sum_by-cons F (a, x) (enumerate_from (a + 1) xs), sum_by-cons G (a, x) (enumerate_from (a + 1) xs))

-- two functions that agree where a fact holds of each element have the same sum
pub sum_by-where : {X : Type 0} (f g : X → ℕ) (P : X → Type 0) → ((x : X) → P x → f x ≡ g x) → (xs : List X) → AllByRecursion P xs → sum_by f xs ≡ sum_by g xs
sum_by-where f g P same [] all = refl
sum_by-where f g P same (x ∷ xs) all = omega (arith, same x all.0, sum_by-cons f x xs, sum_by-cons g x xs, sum_by-where f g P same xs all.1)

pub sum_by-numbers : {X : Type 0} (f : X → ℕ) (g : ℕ × X → ℕ) (d : X) (a : ℕ) (xs : List X) → ((k : ℕ) → k < length xs → f (get_or xs k d) ≡ g (a + k, get_or xs k d)) → sum_by f xs ≡ sum_by g (enumerate_from a xs)
sum_by-numbers f g d a [] same = refl
sum_by-numbers f g d a (x ∷ xs) same =
    let here : f x ≡ g (a, x) = same 0 (omega arith) ∙ ap (λ b. g (b, x)) (let e : a + 0 ≡ a = omega arith in e) in
    let rest = sum_by-numbers f g d (a + 1) xs (λ k h. same (suc k) (omega arith) ∙ ap (λ b. g (b, get_or xs k d)) (let e : a + suc k ≡ (a + 1) + k = omega arith in e)) in
    omega (arith, here, rest, sum_by-cons f x xs, sum_by-cons g (a, x) (enumerate_from (a + 1) xs))

pub sum_by-map : {X Y : Type 0} (f : Y → ℕ) (h : X → Y) (xs : List X) → sum_by f (map h xs) ≡ sum_by (λ x. f (h x)) xs
sum_by-map f h [] = refl
sum_by-map f h (x ∷ xs) = omega (arith, sum_by-cons f (h x) (map h xs), sum_by-cons (λ x. f (h x)) x xs, sum_by-map f h xs)

-- where no element passes a test, what passes it gives nothing
none-sum : {X : Type 0} (t : X → Bool) (v : ℕ) (x : X) (xs : List X) (b : Bool) → t x ≡ b → count_by t (x ∷ xs) ≡ 0 → (count_by t xs ≡ 0 → sum_by (λ x. cond (t x) v 0) xs ≡ 0) → sum_by (λ x. cond (t x) v 0) (x ∷ xs) ≡ 0
none-sum t v x xs true e none rest =
    let one : ◌≡◌ {A = ℕ} (cond (t x) 1 0) 1 = ap (λ b. cond b 1 0) e in
    absurd (omega (arith, one, none, sum_by-cons (λ x. cond (t x) 1 0) x xs))
none-sum t v x xs false e none rest =
    let zero_one : ◌≡◌ {A = ℕ} (cond (t x) 1 0) 0 = ap (λ b. cond b 1 0) e in
    let nothing : cond (t x) v 0 ≡ 0 = ap (λ b. cond b v 0) e in
    omega (arith, nothing, rest (omega (arith, zero_one, none, sum_by-cons (λ x. cond (t x) 1 0) x xs)), sum_by-cons (λ x. cond (t x) v 0) x xs)

none-sums : {X : Type 0} (t : X → Bool) (v : ℕ) (xs : List X) → count_by t xs ≡ 0 → sum_by (λ x. cond (t x) v 0) xs ≡ 0
none-sums t v [] none = refl
none-sums t v (x ∷ xs) none = none-sum t v x xs (t x) refl none (none-sums t v xs)

any-sum_of : {X : Type 0} (t : X → Bool) (v : ℕ) (x : X) (xs : List X) (b : Bool) → t x ≡ b → count_by t (x ∷ xs) ≤ 1 → (count_by t xs ≤ 1 → cond (list_any t xs) v 0 ≡ sum_by (λ x. cond (t x) v 0) xs)
    → cond (b || list_any t xs) v 0 ≡ sum_by (λ x. cond (t x) v 0) (x ∷ xs)
any-sum_of t v x xs true e few rest =
    let one : ◌≡◌ {A = ℕ} (cond (t x) 1 0) 1 = ap (λ b. cond b 1 0) e in
    let all : cond (t x) v 0 ≡ v = ap (λ b. cond b v 0) e in
    let others : count_by t xs ≡ 0 = omega (arith, one, few, sum_by-cons (λ x. cond (t x) 1 0) x xs) in
    omega (arith, all, none-sums t v xs others, sum_by-cons (λ x. cond (t x) v 0) x xs)
any-sum_of t v x xs false e few rest =
    let zero_one : ◌≡◌ {A = ℕ} (cond (t x) 1 0) 0 = ap (λ b. cond b 1 0) e in
    let nothing : cond (t x) v 0 ≡ 0 = ap (λ b. cond b v 0) e in
    omega (arith, nothing, rest (omega (arith, zero_one, few, sum_by-cons (λ x. cond (t x) 1 0) x xs)), sum_by-cons (λ x. cond (t x) v 0) x xs)

-- where at most one element passes a test, what some element gives that passes is what all give
pub any-sum : {X : Type 0} (t : X → Bool) (v : ℕ) (xs : List X) → count_by t xs ≤ 1 → cond (list_any t xs) v 0 ≡ sum_by (λ x. cond (t x) v 0) xs
any-sum t v [] few = refl
any-sum t v (x ∷ xs) few = any-sum_of t v x xs (t x) refl few (any-sum t v xs)
