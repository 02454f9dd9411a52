-- Steps of loops over the centres and the members.
use Rattle.std.proofs.Common.{◌≡◌, ℕ, zero, suc, ◌+◌, ◌<◌, ◌≤◌, Bool, true, false, cond, List, [], ◌∷◌, ◌++◌, length, get_or, take, map, replicate, refl, sym, ap, ◌∙◌, arith, add-one, pos, ◌-◌, Option, Some, None}
use Rattle.std.specs.List.{filter, find, fold, flat_map, range_with_len, enumerate_from}
use Rattle.std.proofs.lemmas.List.{append-nil, append_assoc, map-append, take_more, map_more, replicate_more}
use Rattle.std.proofs.lemmas.List.Sums.{fold_push}
use Rattle.std.proofs.lemmas.List.Elements.{filter-append}
use Rattle.std.proofs.lemmas.List.Concat.{flat_map-append}
use Rattle.std.proofs.lemmas.List.FromFn.{map-range_with_len_more, get_or-enumerate_from, length-enumerate_from}
use Rattle.placement_rows.proofs.Sums.{range-append}

-- one number more of a range
pub map_next : {X : Type 0} (f : ℕ → X) (d : ℕ) → map f (range_with_len 0 (d + 1)) ≡ map f (range_with_len 0 d) ++ f d ∷ []
map_next f d = map-range_with_len_more f 0 d d (omega arith)

-- the pieces of one number more of a range
pub pieces_next : {X : Type 0} (f : ℕ → List X) (d : ℕ) → flat_map f (range_with_len 0 (d + 1)) ≡ flat_map f (range_with_len 0 d) ++ f d
pieces_next f d =
    let at : 0 + d ≡ d = omega arith in
    ap (flat_map f) (range-append 0 d 1)
    ∙ flat_map-append f (range_with_len 0 d) (range_with_len (0 + d) 1)
    ∙ ap (λ e. flat_map f (range_with_len 0 d) ++ (f e ++ [])) at
    ∙ ap (λ ys. flat_map f (range_with_len 0 d) ++ ys) (append-nil (f d))

filter_next : (p : ℕ → Bool) (d : ℕ) → filter p (range_with_len 0 (d + 1)) ≡ filter p (range_with_len 0 d) ++ cond (p d) (d ∷ []) []
filter_next p d =
    let at : 0 + d ≡ d = omega arith in
    ap (filter p) (range-append 0 d 1)
    ∙ filter-append p (range_with_len 0 d) (range_with_len (0 + d) 1)
    ∙ ap (λ e. filter p (range_with_len 0 d) ++ cond (p e) (e ∷ []) []) at

pub filter_next_in : (p : ℕ → Bool) (d : ℕ) → p d ≡ true → filter p (range_with_len 0 (d + 1)) ≡ filter p (range_with_len 0 d) ++ d ∷ []
filter_next_in p d is = filter_next p d ∙ ap (λ b. filter p (range_with_len 0 d) ++ cond b (d ∷ []) []) is

pub filter_next_out : (p : ℕ → Bool) (d : ℕ) → p d ≡ false → filter p (range_with_len 0 (d + 1)) ≡ filter p (range_with_len 0 d)
filter_next_out p d is = filter_next p d ∙ ap (λ b. filter p (range_with_len 0 d) ++ cond b (d ∷ []) []) is ∙ append-nil (filter p (range_with_len 0 d))

-- one element more of a list whose pieces are joined
pub flat_map_next : {X Y : Type 0} (f : X → List Y) (xs : List X) (i : ℕ) (d : X) → i < length xs → flat_map f (take (i + 1) xs) ≡ flat_map f (take i xs) ++ f (get_or xs i d)
flat_map_next f xs i d h =
    ap (flat_map f) (take_more xs i d h)
    ∙ flat_map-append f (take i xs) (get_or xs i d ∷ [])
    ∙ ap (λ ys. flat_map f (take i xs) ++ ys) (append-nil (f (get_or xs i d)))

-- one numbered element more
pub numbered_next : {X Y : Type 0} (f : ℕ × X → Y) (xs : List X) (i : ℕ) (d : X) → i < length xs → map f (take (i + 1) (enumerate_from 0 xs)) ≡ map f (take i (enumerate_from 0 xs)) ++ f (i, get_or xs i d) ∷ []
numbered_next f xs i d h =
    let at : 0 + i ≡ i = omega arith in
    map_more f (enumerate_from 0 xs) i (0, d) (omega (arith, length-enumerate_from 0 xs))
    ∙ ap (λ x. map f (take i (enumerate_from 0 xs)) ++ f x ∷ []) (get_or-enumerate_from 0 xs i (0, d) h ∙ ap (λ k. (k, get_or xs i d)) at)

pub numbered_pieces_next : {X Y : Type 0} (f : ℕ × X → List Y) (xs : List X) (i : ℕ) (d : X) → i < length xs → flat_map f (take (i + 1) (enumerate_from 0 xs)) ≡ flat_map f (take i (enumerate_from 0 xs)) ++ f (i, get_or xs i d)
numbered_pieces_next f xs i d h =
    let at : 0 + i ≡ i = omega arith in
    flat_map_next f (enumerate_from 0 xs) i (0, d) (omega (arith, length-enumerate_from 0 xs))
    ∙ ap (λ x. flat_map f (take i (enumerate_from 0 xs)) ++ f x) (get_or-enumerate_from 0 xs i (0, d) h ∙ ap (λ k. (k, get_or xs i d)) at)

-- one number more of what is made of the numbers that pass a test
pub kept_next_in : {X : Type 0} (f : ℕ → X) (p : ℕ → Bool) (d : ℕ) → p d ≡ true → map f (filter p (range_with_len 0 (d + 1))) ≡ map f (filter p (range_with_len 0 d)) ++ f d ∷ []
kept_next_in f p d is = ap (map f) (filter_next_in p d is) ∙ map-append f (filter p (range_with_len 0 d)) (d ∷ [])

pub kept_next_out : {X : Type 0} (f : ℕ → X) (p : ℕ → Bool) (d : ℕ) → p d ≡ false → map f (filter p (range_with_len 0 (d + 1))) ≡ map f (filter p (range_with_len 0 d))
kept_next_out f p d is = ap (map f) (filter_next_out p d is)

pub ruleset pieces = (pieces_next, append_assoc)

-- one copy more
pub copy_next : {X : Type 0} (n : ℕ) (y : X) → replicate (n + 1) y ≡ replicate n y ++ y ∷ []
copy_next n y = sym (replicate_more n y)

pub ruleset copies = (copy_next, append_assoc)

pub ruleset loops = (map_next, pieces_next, filter_next_in, filter_next_out, append_assoc)

pub ruleset kept = (kept_next_in, kept_next_out, append_assoc)

-- a fold over what passes a test, with one number more
pub fold_next_in : {Y : Type 0} (f : Y → ℕ → Y) (y : Y) (p : ℕ → Bool) (d : ℕ) → p d ≡ true → fold f y (filter p (range_with_len 0 (d + 1))) ≡ f (fold f y (filter p (range_with_len 0 d))) d
fold_next_in f y p d is = ap (fold f y) (filter_next_in p d is) ∙ fold_push f y (filter p (range_with_len 0 d)) d

pub fold_next_out : {Y : Type 0} (f : Y → ℕ → Y) (y : Y) (p : ℕ → Bool) (d : ℕ) → p d ≡ false → fold f y (filter p (range_with_len 0 (d + 1))) ≡ fold f y (filter p (range_with_len 0 d))
fold_next_out f y p d is = ap (fold f y) (filter_next_out p d is)

pub ruleset folds = (fold_next_in, fold_next_out)

-- a search among the numbers from one on that pass a test
search_step : (p q : ℕ → Bool) (d n : ℕ) → d < n → find p (filter q (range_with_len d (n - d))) ≡ find p (cond (q d) (d ∷ filter q (range_with_len (d + 1) (n - (d + 1)))) (filter q (range_with_len (d + 1) (n - (d + 1)))))
search_step p q d n low =
    let left : n - d ≡ suc (n - (d + 1)) = omega arith in
    ap (λ k. find p (filter q (range_with_len d k))) left

pub search_hit : (p q : ℕ → Bool) (d n : ℕ) → d < n → q d ≡ true → p d ≡ true → find p (filter q (range_with_len d (n - d))) ≡ Some d
search_hit p q d n low among is =
    let rest = filter q (range_with_len (d + 1) (n - (d + 1))) in
    search_step p q d n low
    ∙ ap (λ b. find p (cond b (d ∷ rest) rest)) among
    ∙ ap (λ b. cond b (Some d) (find p rest)) is

pub search_far : (p q : ℕ → Bool) (d n : ℕ) → d < n → q d ≡ false → find p (filter q (range_with_len d (n - d))) ≡ find p (filter q (range_with_len (d + 1) (n - (d + 1))))
search_far p q d n low among =
    let rest = filter q (range_with_len (d + 1) (n - (d + 1))) in
    search_step p q d n low ∙ ap (λ b. find p (cond b (d ∷ rest) rest)) among

pub search_miss : (p q : ℕ → Bool) (d n : ℕ) → d < n → p d ≡ false → find p (filter q (range_with_len d (n - d))) ≡ find p (filter q (range_with_len (d + 1) (n - (d + 1))))
search_miss p q d n low is =
    let rest = filter q (range_with_len (d + 1) (n - (d + 1))) in
    search_step p q d n low
    ∙ elim (q d) as (λ b. find p (cond b (d ∷ rest) rest) ≡ find p rest) [
      | true ↦ ap (λ b. cond b (Some d) (find p rest)) is
      | false ↦ refl
    ]

pub search_end : (p q : ℕ → Bool) (d n : ℕ) → n ≤ d → find p (filter q (range_with_len d (n - d))) ≡ None
search_end p q d n past =
    let left : n - d ≡ 0 = omega arith in
    ap (λ k. find p (filter q (range_with_len d k))) left

-- a search among the numbers from one on
first_step : (p : ℕ → Bool) (d n : ℕ) → d < n → find p (range_with_len d (n - d)) ≡ cond (p d) (Some d) (find p (range_with_len (d + 1) (n - (d + 1))))
first_step p d n low =
    let left : n - d ≡ suc (n - (d + 1)) = omega arith in
    ap (λ k. find p (range_with_len d k)) left

pub first_hit : (p : ℕ → Bool) (d n : ℕ) → d < n → p d ≡ true → find p (range_with_len d (n - d)) ≡ Some d
first_hit p d n low is = first_step p d n low ∙ ap (λ b. cond b (Some d) (find p (range_with_len (d + 1) (n - (d + 1))))) is

pub first_miss : (p : ℕ → Bool) (d n : ℕ) → d < n → p d ≡ false → find p (range_with_len d (n - d)) ≡ find p (range_with_len (d + 1) (n - (d + 1)))
first_miss p d n low is = first_step p d n low ∙ ap (λ b. cond b (Some d) (find p (range_with_len (d + 1) (n - (d + 1))))) is

pub first_end : (p : ℕ → Bool) (d n : ℕ) → n ≤ d → find p (range_with_len d (n - d)) ≡ None
first_end p d n past =
    let left : n - d ≡ 0 = omega arith in
    ap (λ k. find p (range_with_len d k)) left

pub ruleset firsts = (first_hit, first_miss, first_end)
