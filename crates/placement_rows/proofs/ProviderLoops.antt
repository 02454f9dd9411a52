-- Steps of loops over the providers of a world.
use Rattle.std.proofs.Common.{◌≡◌, ℕ, zero, suc, ◌+◌, ◌<◌, ◌≤◌, inl, inr, Bool, true, false, cond, not, ◌||◌, List, [], ◌∷◌, ◌++◌, length, get_or, take, map, refl, sym, ap, ◌∙◌, arith}
use Rattle.std.specs.List.{filter, range_with_len, list_any, enumerate_from}
use Rattle.std.proofs.lemmas.List.{append-nil, append_assoc, map-append, take_more, length-append}
use Rattle.std.proofs.lemmas.List.Elements.{filter-append}
use Rattle.std.proofs.lemmas.List.Folds.{list_any_at, list_any-append}
use Rattle.std.proofs.lemmas.List.FromFn.{length-range_with_len, get_or-range_with_len}
use Rattle.span_base.specs.declared.dc_set.DcSet.{DcSet}
use Rattle.span_base.specs.DcSet.{centres_of}
use Rattle.slo_rules.specs.Centres.{centres_from}
use Rattle.slo_rules.proofs.Centres.{centres_of_is}
use Rattle.slo_rules.proofs.ProviderNames.{any_end, any_next, below-lies_below, below-has}
use Rattle.placement_rows.proofs.Sums.{range-append}
use Rattle.placement_rows.proofs.Loops.{kept_next_in, kept_next_out, filter_next_in, filter_next_out}

range_next : (d : ℕ) → range_with_len 0 (d + 1) ≡ range_with_len 0 d ++ d ∷ []
range_next d = range-append 0 d 1 ∙ ap (λ k. range_with_len 0 d ++ k ∷ []) (let e : 0 + d ≡ d = omega arith in e)

-- no number up to one passes a test, and then not that one
pub none_next : (p : ℕ → Bool) (d : ℕ) → list_any p (range_with_len 0 d) ≡ false → p d ≡ false → list_any p (range_with_len 0 (d + 1)) ≡ false
none_next p d none not =
    ap (list_any p) (range_next d) ∙ list_any-append p (range_with_len 0 d) (d ∷ []) ∙ ap (λ b. b || (p d || false)) none ∙ ap (λ b. b || false) not

-- one of the numbers passes a test
pub some_hit : (p : ℕ → Bool) (d n : ℕ) → d < n → p d ≡ true → list_any p (range_with_len 0 n) ≡ true
some_hit p d n low is =
    list_any_at p (range_with_len 0 n) d 0 (omega (arith, length-range_with_len 0 n))
    (ap p (get_or-range_with_len 0 n d 0 low ∙ (let e : 0 + d ≡ d = omega arith in e)) ∙ is)

pub ruleset earlier = (none_next, some_hit)

-- whether one of the centres of a set passes a test, from the first on
pub any_start : (p : ℕ → Bool) (s : DcSet) → list_any p (centres_of s) ≡ list_any p (centres_from s 0)
any_start p s = ap (list_any p) (centres_of_is s)

pub ruleset among = (any_start, any_end, any_next, below-lies_below, below-has)

filter_more : {X : Type 0} (p : X → Bool) (xs : List X) (i : ℕ) (d : X) → i < length xs → filter p (take (i + 1) xs) ≡ filter p (take i xs) ++ cond (p (get_or xs i d)) (get_or xs i d ∷ []) []
filter_more p xs i d h = ap (filter p) (take_more xs i d h) ∙ filter-append p (take i xs) (get_or xs i d ∷ [])

-- one item more of what is made of the items that pass a test
pub item_in : {X Y : Type 0} (f : X → Y) (p : X → Bool) (xs : List X) (i : ℕ) (d : X) → i < length xs → p (get_or xs i d) ≡ true → map f (filter p (take (i + 1) xs)) ≡ map f (filter p (take i xs)) ++ f (get_or xs i d) ∷ []
item_in f p xs i d h is =
    ap (map f) (filter_more p xs i d h ∙ ap (λ b. filter p (take i xs) ++ cond b (get_or xs i d ∷ []) []) is)
    ∙ map-append f (filter p (take i xs)) (get_or xs i d ∷ [])

pub item_out : {X Y : Type 0} (f : X → Y) (p : X → Bool) (xs : List X) (i : ℕ) (d : X) → i < length xs → p (get_or xs i d) ≡ false → map f (filter p (take (i + 1) xs)) ≡ map f (filter p (take i xs))
item_out f p xs i d h is =
    ap (map f) (filter_more p xs i d h ∙ ap (λ b. filter p (take i xs) ++ cond b (get_or xs i d ∷ []) []) is ∙ append-nil (filter p (take i xs)))

pub ruleset items = (item_in, item_out)

pub ruleset made = (kept_next_in, kept_next_out, append_assoc, append-nil)

enumerate-append : {X : Type 0} (a : ℕ) (xs : List X) (x : X) → enumerate_from a (xs ++ x ∷ []) ≡ enumerate_from a xs ++ (a + length xs, x) ∷ []
enumerate-append a [] x = ap (λ k. (k, x) ∷ []) (let e : a ≡ a + 0 = omega arith in e)
enumerate-append a (y ∷ xs) x =
    ap (λ r. (a, y) ∷ r) (enumerate-append (a + 1) xs x)
    ∙ ap (λ k. (a, y) ∷ (enumerate_from (a + 1) xs ++ (k, x) ∷ [])) (let e : (a + 1) + length xs ≡ a + suc (length xs) = omega arith in e)

-- one number more of those that pass a test, numbered
pub numbered_in : {X : Type 0} (f : ℕ × ℕ → X) (p : ℕ → Bool) (a d : ℕ) → p d ≡ true → map f (enumerate_from a (filter p (range_with_len 0 (d + 1)))) ≡ map f (enumerate_from a (filter p (range_with_len 0 d))) ++ f (a + length (filter p (range_with_len 0 d)), d) ∷ []
numbered_in f p a d is =
    ap (λ ds. map f (enumerate_from a ds)) (filter_next_in p d is)
    ∙ ap (map f) (enumerate-append a (filter p (range_with_len 0 d)) d)
    ∙ map-append f (enumerate_from a (filter p (range_with_len 0 d))) ((a + length (filter p (range_with_len 0 d)), d) ∷ [])

pub numbered_out : {X : Type 0} (f : ℕ × ℕ → X) (p : ℕ → Bool) (a d : ℕ) → p d ≡ false → map f (enumerate_from a (filter p (range_with_len 0 (d + 1)))) ≡ map f (enumerate_from a (filter p (range_with_len 0 d)))
numbered_out f p a d is = ap (λ ds. map f (enumerate_from a ds)) (filter_next_out p d is)

pub length_in : (p : ℕ → Bool) (d : ℕ) → p d ≡ true → length (filter p (range_with_len 0 (d + 1))) ≡ length (filter p (range_with_len 0 d)) + 1
length_in p d is = ap length (filter_next_in p d is) ∙ length-append (filter p (range_with_len 0 d)) (d ∷ [])

pub length_out : (p : ℕ → Bool) (d : ℕ) → p d ≡ false → length (filter p (range_with_len 0 (d + 1))) ≡ length (filter p (range_with_len 0 d))
length_out p d is = ap length (filter_next_out p d is)

pub ruleset numbered = (numbered_in, numbered_out, length_in, length_out, append_assoc, append-nil)
