-- How many numbers of a range pass a test, and sums over ranges.
use Rattle.std.proofs.Common.{◌≡◌, ℕ, zero, suc, ◌+◌, ◌<◌, ◌≤◌, Bool, true, false, cond, ◌&&◌, List, [], ◌∷◌, length, get_or, refl, ap, ◌∙◌, arith}
use Rattle.std.specs.List.{sum_by, count_by, filter, range_with_len, zip}
use Rattle.std.proofs.lemmas.Bool.{and_parts, and_from}
use Rattle.std.proofs.lemmas.List.Sums.{sum_by-cons, length-filter}
use Rattle.span_base.specs.declared.dc_set.DcSet.{DcSet}
use Rattle.span_base.specs.DcSet.{has, centres_of, centres_below}
use Rattle.placement_rows.proofs.Sums.{sum_by-agree, sum_by-filter}

fewer : (c e : Bool) → (c ≡ true → e ≡ true) → (cond c 1 0) ≤ (cond e 1 0)
fewer true true h = omega arith
fewer true false h = let e = h refl in cc
fewer false true h = omega arith
fewer false false h = omega arith

-- no more pass a test than pass another in another range, where each that passes the one passes the other there
pub count-range-le : (p q : ℕ → Bool) (s n m : ℕ) → ((d : ℕ) → s ≤ d → d < s + n → p d ≡ true → (d < s + m) × (q d ≡ true)) → count_by p (range_with_len s n) ≤ count_by q (range_with_len s m)
count-range-le p q s zero m each = omega arith
count-range-le p q s (suc n) zero each =
    let none : ◌≡◌ {A = ℕ} (cond (p s) 1 0) 0 = not_here (p s) refl in
    omega (arith, none, sum_by-cons (λ d. cond (p d) 1 0) s (range_with_len (s + 1) n), count-range-le p q (s + 1) n zero (λ d low high is. let h = each d (omega arith) (omega arith) is in absurd (omega (arith, low, h.0))))
  where
    not_here : (b : Bool) → p s ≡ b → ◌≡◌ {A = ℕ} (cond b 1 0) 0
    not_here true is = let h = each s (omega arith) (omega arith) is in absurd (omega (arith, h.0))
    not_here false is = refl
count-range-le p q s (suc n) (suc m) each =
    omega (
      arith,
      fewer (p s) (q s) (λ is. (each s (omega arith) (omega arith) is).1),
      sum_by-cons (λ d. cond (p d) 1 0) s (range_with_len (s + 1) n),
      sum_by-cons (λ d. cond (q d) 1 0) s (range_with_len (s + 1) m),
      count-range-le p q (s + 1) n m (λ d low high is. let h = each d (omega arith) (omega arith) is in (omega (arith, h.0), h.1)),
    )

both_tests : (a b : Bool) → ◌≡◌ {A = ℕ} (cond a (cond b 1 0) 0) (cond (a && b) 1 0)
both_tests true b = refl
both_tests false b = refl

count-filter : (b p : ℕ → Bool) (xs : List ℕ) → count_by b (filter p xs) ≡ count_by (λ d. p d && b d) xs
count-filter b p xs = sum_by-filter (λ d. cond (b d) 1 0) p xs ∙ sum_by-agree (λ d. cond (p d) (cond (b d) 1 0) 0) (λ d. cond (p d && b d) 1 0) (λ d. both_tests (p d) (b d)) xs

pub count-set : (s : DcSet) → length (centres_of s) ≡ count_by (has s) (range_with_len 0 16)
unfolding centres_of centres_below
count-set s = length-filter (has s) (range_with_len 0 16)

-- a set has as many centres as pass two tests, where it has each of them
pub set-most : (b p : ℕ → Bool) (s : DcSet) (n : ℕ) → n ≤ 16 → ((d : ℕ) → d < n → p d ≡ true → b d ≡ true → has s d ≡ true) → count_by b (filter p (range_with_len 0 n)) ≤ length (centres_of s)
set-most b p s n few each =
    omega (
      arith,
      count-filter b p (range_with_len 0 n),
      count-set s,
      count-range-le (λ d. p d && b d) (has s) 0 n 16 (λ d low high is. let parts = and_parts (p d) (b d) is in (omega arith, each d (omega arith) parts.0 parts.1)),
    )

-- and no more, where each of its centres passes them
pub set-least : (b p : ℕ → Bool) (s : DcSet) (n : ℕ) → ((d : ℕ) → has s d ≡ true → d < n) → ((d : ℕ) → has s d ≡ true → p d ≡ true) → ((d : ℕ) → has s d ≡ true → b d ≡ true) → length (centres_of s) ≤ count_by b (filter p (range_with_len 0 n))
set-least b p s n low pass here =
    omega (
      arith,
      count-filter b p (range_with_len 0 n),
      count-set s,
      count-range-le (has s) (λ d. p d && b d) 0 16 n (λ d from to is. let l = low d is in (omega (arith, l), and_from (p d) (b d) (pass d is) (here d is))),
    )

-- a sum is no more than another where each of its terms is
pub sum-range-le : (f g : ℕ → ℕ) (s n : ℕ) → ((d : ℕ) → s ≤ d → d < s + n → f d ≤ g d) → sum_by f (range_with_len s n) ≤ sum_by g (range_with_len s n)
sum-range-le f g s zero each = omega arith
sum-range-le f g s (suc n) each =
    omega (
      arith,
      each s (omega arith) (omega arith),
      sum_by-cons f s (range_with_len (s + 1) n),
      sum_by-cons g s (range_with_len (s + 1) n),
      sum-range-le f g (s + 1) n (λ d low high. each d (omega arith) (omega arith)),
    )

-- a sum over two lists side by side, by their places
pub sum-zip : {X Y : Type 0} (h : X → Y → ℕ) (f : ℕ → ℕ) (d : X) (e : Y) (s : ℕ) (xs : List X) (ys : List Y) → length xs ≡ length ys → ((i : ℕ) → i < length xs → f (s + i) ≡ h (get_or xs i d) (get_or ys i e))
    → sum_by f (range_with_len s (length xs)) ≡ sum_by (λ pair. h pair.0 pair.1) (zip xs ys)
sum-zip h f d e s [] ys long same = refl
sum-zip h f d e s (x ∷ xs) [] long same = absurd (omega arith)
sum-zip {X} {Y} h f d e s (x ∷ xs) (y ∷ ys) long same =
    let here : f s ≡ h x y = ap f (let e : s ≡ s + 0 = omega arith in e) ∙ same 0 (omega arith) in
    omega (
      arith,
      here,
      sum_by-cons f s (range_with_len (s + 1) (length xs)),
      sum_by-cons (λ (pair : X × Y). h pair.0 pair.1) (x, y) (zip xs ys),
      sum-zip h f d e (s + 1) xs ys (omega arith) (λ i in'. ap f (let e : (s + 1) + i ≡ s + suc i = omega arith in e) ∙ same (suc i) (omega arith)),
    )
