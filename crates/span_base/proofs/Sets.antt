-- Laws of sets of centres.
use Rattle.std.proofs.Common.{IsTrue, subst, slice_index, slice_index_or, ◌-◌, length-append, ◌≡◌, ℕ, ◌<◌, ◌≤◌, ◌+◌, ◌/◌, ◌^◌, suc, zero, Bool, true, false, cond, ◌&&◌, ◌||◌, List, [], ◌∷◌, ◌++◌, length, refl, sym, ◌∙◌, ap, arith, min, max, nat_lt, ◌==◌, ◌≢◌, ◌⊎◌, inl, inr}
use Rattle.std.proofs.lemmas.Nat.{and_comm, or_comm}
use Rattle.std.proofs.lemmas.Nat.Bits.{bit_at_and, bit_at_or, bit_at-pow_same, bit_at-pow_other, bit_at-lt, bit_at-zero, same_from_bits_below}
use Rattle.std.specs.Int.{bit_at}
use Rattle.std.specs.Int.Count.{ones, ones_step}
use Rattle.std.specs.List.{filter, range_with_len}
use Rattle.std.proofs.lemmas.List.Elements.{filter-append}
use Rattle.std.proofs.lemmas.Bool.{lt-ltb}
use Rattle.std.proofs.Math.Pow.{shr_lt}
use Rattle.std.proofs.Math.Nat.{pow-suc, div-one, div-div-eq-div-mul}
use Rattle.std.specs.List.{All, Contains}
use Rattle.std.specs.List.Sorted.{IsStrictlyIncreasing}
use Rattle.std.proofs.lemmas.List.Kept.{IsStrictlyIncreasing-filter}
use Rattle.std.proofs.lemmas.List.FromFn.{get_or-range_with_len, length-range_with_len}
use Rattle.std.proofs.Math.Seq.{get_or-append_seam}
use Rattle.span_base.proofs.Distinct.{eq_or_not}
use Rattle.span_base.specs.DcSet.{DcSet, bits_of, has, centres_below, centres_of, no_centre, meet, join, insert}

pub and_left : (a b : Bool) → (a && b) ≡ true → a ≡ true
and_left true b h = refl
and_left false b h = h

pub and_right : (a b : Bool) → (a && b) ≡ true → b ≡ true
and_right true b h = h
and_right false b h = absurd (cc h)

min-one : (x y : ℕ) → x < 2 → y < 2 → (min x y == 1) ≡ ((x == 1) && (y == 1))
min-one zero zero h k = refl
min-one zero (suc zero) h k = refl
min-one zero (suc (suc y)) h k = absurd (omega arith)
min-one (suc zero) zero h k = refl
min-one (suc zero) (suc zero) h k = refl
min-one (suc zero) (suc (suc y)) h k = absurd (omega arith)
min-one (suc (suc x)) y h k = absurd (omega arith)

max-one : (x y : ℕ) → x < 2 → y < 2 → (max x y == 1) ≡ ((x == 1) || (y == 1))
max-one zero zero h k = refl
max-one zero (suc zero) h k = refl
max-one zero (suc (suc y)) h k = absurd (omega arith)
max-one (suc zero) zero h k = refl
max-one (suc zero) (suc zero) h k = refl
max-one (suc zero) (suc (suc y)) h k = absurd (omega arith)
max-one (suc (suc x)) y h k = absurd (omega arith)

guard-and : (c a b : Bool) → (c && (a && b)) ≡ ((c && a) && (c && b))
guard-and true a b = refl
guard-and false a b = refl

guard-or : (c a b : Bool) → (c && (a || b)) ≡ ((c && a) || (c && b))
guard-or true a b = refl
guard-or false a b = refl

-- a centre is in the meet of two sets where it is in both
pub has-meet : (s t : DcSet) (d : ℕ) → has (meet s t) d ≡ (has s d && has t d)
has-meet s t d =
    ap (λ x. nat_lt d 16 && (x == 1)) (bit_at_and (bits_of s) (bits_of t) d)
    ∙ ap (λ x. nat_lt d 16 && x) (min-one (bit_at (bits_of s) d) (bit_at (bits_of t) d) (bit_at-lt _ _) (bit_at-lt _ _))
    ∙ guard-and (nat_lt d 16) (bit_at (bits_of s) d == 1) (bit_at (bits_of t) d == 1)

-- a centre is in the join of two sets where it is in one of them
pub has-join : (s t : DcSet) (d : ℕ) → has (join s t) d ≡ (has s d || has t d)
has-join s t d =
    ap (λ x. nat_lt d 16 && (x == 1)) (bit_at_or (bits_of s) (bits_of t) d)
    ∙ ap (λ x. nat_lt d 16 && x) (max-one (bit_at (bits_of s) d) (bit_at (bits_of t) d) (bit_at-lt _ _) (bit_at-lt _ _))
    ∙ guard-or (nat_lt d 16) (bit_at (bits_of s) d == 1) (bit_at (bits_of t) d == 1)

-- the empty set has no centre
pub has-no_centre : (d : ℕ) → has no_centre d ≡ false
has-no_centre d = ap (λ x. nat_lt d 16 && (x == 1)) (bit_at-zero d) ∙ elim (nat_lt d 16) as (λ c. (c && false) ≡ false) [ true ↦ refl | false ↦ refl ]

or_true : (b : Bool) → (b || true) ≡ true
or_true true = refl
or_true false = refl

or_false : (b : Bool) → (b || false) ≡ b
or_false true = refl
or_false false = refl

-- a bit of a set to which a centre is added
bit-insert : (s : DcSet) (d e x : ℕ) → x < 2 → bit_at (2 ^ d) e ≡ x → (bit_at (bits_of (insert s d)) e == 1) ≡ ((bit_at (bits_of s) e == 1) || (x == 1))
bit-insert s d e x h is =
    ap (λ y. y == 1) (bit_at_or (bits_of s) (2 ^ d) e)
    ∙ max-one (bit_at (bits_of s) e) (bit_at (2 ^ d) e) (bit_at-lt _ _) (bit_at-lt _ _)
    ∙ ap (λ y. (bit_at (bits_of s) e == 1) || (y == 1)) is

-- a set to which a centre is added has it
pub has-insert_same : (s : DcSet) (d : ℕ) → d < 16 → has (insert s d) d ≡ true
has-insert_same s d h =
    ap (λ b. b && (bit_at (bits_of (insert s d)) d == 1)) (lt-ltb d 16 h)
    ∙ bit-insert s d d 1 (omega arith) (bit_at-pow_same d)
    ∙ or_true (bit_at (bits_of s) d == 1)

-- and it has what it had
pub has-insert_other : (s : DcSet) (d e : ℕ) → e ≢ d → has (insert s d) e ≡ has s e
has-insert_other s d e ne =
    ap (λ b. nat_lt e 16 && b) (bit-insert s d e 0 (omega arith) (bit_at-pow_other d e ne) ∙ or_false (bit_at (bits_of s) e == 1))

-- who is in a set with one more
pub has-insert_cases : (s : DcSet) (d e : ℕ) → has (insert s d) e ≡ true → (e ≡ d) ⊎ (has s e ≡ true)
has-insert_cases s d e h = elim (eq_or_not e d) as (λ _. (e ≡ d) ⊎ (has s e ≡ true)) [ inl is ↦ inl is | inr ne ↦ inr (sym (has-insert_other s d e ne) ∙ h) ]

-- who is in a set stays in it with one more
pub has-insert_stays : (s : DcSet) (d e : ℕ) → d < 16 → has s e ≡ true → has (insert s d) e ≡ true
has-insert_stays s d e lt h =
    elim (eq_or_not e d) as (λ _. has (insert s d) e ≡ true) [ inl is ↦ subst (λ n. has (insert s d) n ≡ true) (sym is) (has-insert_same s d lt) | inr ne ↦ has-insert_other s d e ne ∙ h ]

-- nobody is in the empty set
pub none_in : (d : ℕ) → has no_centre d ≡ true → ⊥
none_in d h = let none = has-no_centre d in cc

-- no number from 16 on is in a set
pub has-below : (s : DcSet) (d : ℕ) → has s d ≡ true → d < 16
has-below s d h = grind (arith)

pub meet_comm : (s t : DcSet) → meet s t ≡ meet t s
meet_comm s t = ap (λ n. let r : DcSet = record { bits = n } in r) (and_comm (bits_of s) (bits_of t))

pub join_comm : (s t : DcSet) → join s t ≡ join t s
join_comm s t = ap (λ n. let r : DcSet = record { bits = n } in r) (or_comm (bits_of s) (bits_of t))

same-one : (x y : ℕ) → x < 2 → y < 2 → (x == 1) ≡ (y == 1) → x ≡ y
same-one zero zero h k e = refl
same-one zero (suc zero) h k e = cc
same-one zero (suc (suc y)) h k e = absurd (omega arith)
same-one (suc zero) zero h k e = cc
same-one (suc zero) (suc zero) h k e = refl
same-one (suc zero) (suc (suc y)) h k e = absurd (omega arith)
same-one (suc (suc x)) y h k e = absurd (omega arith)

-- below 16 a centre is in a set where its bit is set
has-bit : (s : DcSet) (d : ℕ) → d < 16 → has s d ≡ (bit_at (bits_of s) d == 1)
has-bit s d h = ap (λ b. b && (bit_at (bits_of s) d == 1)) (lt-ltb d 16 h)

-- two sets of the same bits are the same
pub same_bits : (s t : DcSet) → bits_of s ≡ bits_of t → s ≡ t
same_bits s t e =
    ap (λ n.
    let r : DcSet = record { bits = n } in
    r) e

-- two sets that have the same centres are the same
pub same_set : (s t : DcSet) → bits_of s < 2 ^ 16 → bits_of t < 2 ^ 16 → ((d : ℕ) → d < 16 → has s d ≡ has t d) → s ≡ t
same_set s t low high same =
    let e : bits_of s ≡ bits_of t = same_from_bits_below 16 (bits_of s) (bits_of t) low high
    (λ d h. same-one _ _ (bit_at-lt (bits_of s) d) (bit_at-lt (bits_of t) d) (sym (has-bit s d h) ∙ same d h ∙ has-bit t d h)) in
    ap (λ n. let r : DcSet = record { bits = n } in r) e

count_cond : (b : Bool) (d : ℕ) (ds : List ℕ) → length (cond b (d ∷ ds) ds) ≡ cond b 1 0 + length ds
count_cond true d ds = omega arith
count_cond false d ds = omega arith

one-bit : (x : ℕ) → x < 2 → cond (x == 1) 1 0 ≡ x
one-bit zero h = refl
one-bit (suc zero) h = refl
one-bit (suc (suc x)) h = absurd (omega arith)

ones-zero : ones 0 ≡ 0
unfolding ones
ones-zero = refl

-- what the bits from j on count is how many of the centres from j on the set has
ones_from : (s : DcSet) (k j : ℕ) → j + k ≡ 16 → bits_of s < 2 ^ 16 → ones (bits_of s / 2 ^ j) ≡ length (filter (has s) (range_with_len j k))
ones_from s zero j all low =
    let at : j ≡ 16 = omega arith in
    let none : bits_of s / 2 ^ 16 < 2 ^ 0 = shr_lt 0 16 low in
    let none' : bits_of s / 2 ^ 16 ≡ 0 = omega arith in
    rw (at, none') ones-zero
ones_from s (suc k) j all low =
    ones_step (bits_of s / 2 ^ j)
    ∙ (let rest : bits_of s / 2 ^ j / 2 ≡ bits_of s / 2 ^ (j + 1) = div-div-eq-div-mul (bits_of s) (2 ^ j) 2 ∙ ap (λ x. bits_of s / x) (sym (pow-suc 2 j)) ∙ ap (λ x. bits_of s / 2 ^ x) (omega arith) in
    let more : ones (bits_of s / 2 ^ j / 2) ≡ length (filter (has s) (range_with_len (j + 1) k)) = ap ones rest ∙ ones_from s k (j + 1) (omega arith) low in
    let here : cond (has s j) 1 0 ≡ bit_at (bits_of s) j = ap (λ b. cond b 1 0) (has-bit s j (omega arith)) ∙ one-bit _ (bit_at-lt (bits_of s) j) in
    omega (arith, more, here, count_cond (has s j) j (filter (has s) (range_with_len (j + 1) k))))

-- the centres below n are those of 0 to n - 1 that the set has
pub centres_below-is : (s : DcSet) (n : ℕ) → centres_below s n ≡ filter (has s) (range_with_len 0 n)
unfolding centres_below
centres_below-is s n = refl

-- the centres of a set are those below 16
pub centres_of-is : (s : DcSet) → centres_of s ≡ centres_below s 16
unfolding centres_of
centres_of-is s = refl

-- the number of bits that are set is the number of centres
pub ones-bits_of : (s : DcSet) → bits_of s < 2 ^ 16 → ones (bits_of s) ≡ length (centres_of s)
ones-bits_of s low =
    ap ones (sym (div-one (bits_of s))) ∙ ones_from s 16 0 refl low ∙ ap length (sym (centres_of-is s ∙ centres_below-is s 16))

length-filter_le : (p : ℕ → Bool) (xs : List ℕ) → length (filter p xs) ≤ length xs
length-filter_le p [] = omega arith
length-filter_le p (x ∷ xs) = omega (arith, count_cond (p x) x (filter p xs), cond_le (p x), length-filter_le p xs)
  where
    cond_le : (b : Bool) → cond b 1 0 ≤ 1
    cond_le true = omega arith
    cond_le false = omega arith

-- a set has at most 16 centres
pub count_le : (s : DcSet) → length (centres_of s) ≤ 16
count_le s =
    let all : length (filter (has s) (range_with_len 0 16)) ≤ length (range_with_len 0 16) = length-filter_le (has s) (range_with_len 0 16) in
    rw (centres_of-is, centres_below-is) all

-- a filter that passes no more keeps no more
count_mono : (p q : ℕ → Bool) → ((x : ℕ) → p x ≡ true → q x ≡ true) → (xs : List ℕ) → length (filter p xs) ≤ length (filter q xs)
count_mono p q more [] = omega arith
count_mono p q more (x ∷ xs) = step (p x) (q x) (more x) (count_mono p q more xs)
  where
    step : (a b : Bool) → (a ≡ true → b ≡ true) → length (filter p xs) ≤ length (filter q xs) → length (cond a (x ∷ filter p xs) (filter p xs)) ≤ length (cond b (x ∷ filter q xs) (filter q xs))
    step true true h k = omega arith
    step true false h k = let e : false ≡ true = h refl in cc
    step false true h k = omega arith
    step false false h k = k

-- the meet of two sets has no more centres than either
pub count-meet_left : (s t : DcSet) → length (centres_of (meet s t)) ≤ length (centres_of s)
count-meet_left s t =
    let all : length (filter (has (meet s t)) (range_with_len 0 16)) ≤ length (filter (has s) (range_with_len 0 16)) =
    count_mono (has (meet s t)) (has s) (λ d h. and_left (has s d) (has t d) (sym (has-meet s t d) ∙ h)) (range_with_len 0 16) in
    rw (centres_of-is, centres_of-is, centres_below-is, centres_below-is) all

pub count-meet_right : (s t : DcSet) → length (centres_of (meet s t)) ≤ length (centres_of t)
count-meet_right s t = rw (meet_comm s t) (count-meet_left t s)

pub count-no_centre : length (centres_of no_centre) ≡ 0
unfolding centres_of centres_below
count-no_centre = refl

range_more : (a n : ℕ) → range_with_len a (suc n) ≡ range_with_len a n ++ (a + n) ∷ []
range_more a zero = ap (λ x. x ∷ []) (omega arith)
range_more a (suc n) =
    let there : a + 1 + n ≡ a + suc n = omega arith in
    ap (λ xs. a ∷ xs) (range_more (a + 1) n ∙ ap (λ x. range_with_len (a + 1) n ++ x ∷ []) there)

-- the centres below n + 1 are those below n, and n where the set has it
pub centres_below-more : (s : DcSet) (n : ℕ) → centres_below s (n + 1) ≡ centres_below s n ++ cond (has s n) (n ∷ []) []
unfolding centres_below
centres_below-more s n =
    let suc_is : n + 1 ≡ suc n = omega arith in
    let here : 0 + n ≡ n = omega arith in
    ap (λ k. filter (has s) (range_with_len 0 k)) suc_is
    ∙ ap (filter (has s)) (range_more 0 n ∙ ap (λ x. range_with_len 0 n ++ x ∷ []) here)
    ∙ filter-append (has s) (range_with_len 0 n) (n ∷ [])

pub centres_below-zero : (s : DcSet) → centres_below s 0 ≡ []
unfolding centres_below
centres_below-zero s = refl

passes_more : (p : ℕ → Bool) (x : ℕ) (xs : List ℕ) (d : ℕ) (b : Bool) → p x ≡ b → ((i : ℕ) → i < length (filter p xs) → p (slice_index_or (filter p xs) i d) ≡ true) → (k : ℕ) → k < length (cond b (x ∷ filter p xs) (filter p xs)) → p (slice_index_or (cond b (x ∷ filter p xs) (filter p xs)) k d) ≡ true
passes_more p x xs d true e rest zero low = e
passes_more p x xs d true e rest (suc k) low = rest k (omega arith)
passes_more p x xs d false e rest k low = rest k low

passes : (p : ℕ → Bool) (xs : List ℕ) (k d : ℕ) → k < length (filter p xs) → p (slice_index_or (filter p xs) k d) ≡ true
passes p [] k d h = absurd (omega arith)
passes p (x ∷ xs) k d h = passes_more p x xs d (p x) refl (λ i low. passes p xs i d low) k h

-- each centre that a set lists is in it
pub All-centres_of : (s : DcSet) → All (λ d. IsTrue (has s d)) (centres_of s)
All-centres_of s =
    subst (All (λ d. IsTrue (has s d))) (sym (centres_of-is s ∙ centres_below-is s 16))
    (λ k d within. passes (has s) (range_with_len 0 16) k d within)

range-append : (a m n : ℕ) → range_with_len a (m + n) ≡ range_with_len a m ++ range_with_len (a + m) n
range-append a zero n =
    let e : zero + n ≡ n = omega arith in
    let f : a + 0 ≡ a = omega arith in
    rw (e, f) refl
range-append a (suc m) n =
    let e : suc m + n ≡ suc (m + n) = omega arith in
    let f : a + 1 + m ≡ a + suc m = omega arith in
    ap (range_with_len a) e ∙ ap (λ xs. a ∷ xs) (range-append (a + 1) m n ∙ ap (λ k. range_with_len (a + 1) m ++ range_with_len k n) f)

-- a centre of the set stands after those below it
pub centres_of-split : (s : DcSet) (d : ℕ) → d < 16 → has s d ≡ true → centres_of s ≡ centres_below s d ++ d ∷ filter (has s) (range_with_len (d + 1) (15 - d))
centres_of-split s d low here =
    let e : 16 ≡ d + suc (15 - d) = omega arith in
    let f : 0 + d ≡ d = omega arith in
    centres_of-is s ∙ centres_below-is s 16
    ∙ ap (λ k. filter (has s) (range_with_len 0 k)) e
    ∙ ap (filter (has s)) (range-append 0 d (suc (15 - d)))
    ∙ filter-append (has s) (range_with_len 0 d) (range_with_len (0 + d) (suc (15 - d)))
    ∙ ap (λ k. filter (has s) (range_with_len 0 d) ++ filter (has s) (range_with_len k (suc (15 - d)))) f
    ∙ ap (λ b. filter (has s) (range_with_len 0 d) ++ cond b (d ∷ filter (has s) (range_with_len (d + 1) (15 - d))) (filter (has s) (range_with_len (d + 1) (15 - d)))) here
    ∙ ap (λ xs. xs ++ d ∷ filter (has s) (range_with_len (d + 1) (15 - d))) (sym (centres_below-is s d))

-- each centre that is in a set stands in its list
pub Contains-centres_of : (s : DcSet) (d : ℕ) → has s d ≡ true → Contains (centres_of s) d
Contains-centres_of s d here =
    subst (λ xs. Contains xs d) (sym (centres_of-split s d (has-below s d here) here)) (
      length (centres_below s d),
      omega (arith, length-append (centres_below s d) (d ∷ filter (has s) (range_with_len (d + 1) (15 - d)))),
      get_or-append_seam (centres_below s d) d (filter (has s) (range_with_len (d + 1) (15 - d))) d,
    )

-- the centres of a set rise
pub IsStrictlyIncreasing-centres_of : (s : DcSet) → IsStrictlyIncreasing (centres_of s)
IsStrictlyIncreasing-centres_of s =
    subst IsStrictlyIncreasing (sym (centres_of-is s ∙ centres_below-is s 16))
    (IsStrictlyIncreasing-filter (has s) (range_with_len 0 16) (λ k h. rises k h))
  where
    rises : (k : ℕ) → k + 1 < length (range_with_len 0 16) → slice_index (range_with_len 0 16) k < slice_index (range_with_len 0 16) (k + 1)
    rises k h =
        let low : slice_index (range_with_len 0 16) k ≡ 0 + k = get_or-range_with_len 0 16 k 0 (omega (arith, length-range_with_len 0 16)) in
        let high : slice_index (range_with_len 0 16) (k + 1) ≡ 0 + (k + 1) = get_or-range_with_len 0 16 (k + 1) 0 (omega (arith, length-range_with_len 0 16)) in
        omega arith
