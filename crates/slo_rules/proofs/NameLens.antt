-- How long a name is: a count along the bytes.
use Rattle.std.proofs.Common.{◌≡◌, ℕ, zero, suc, ◌+◌, ◌-◌, ◌<◌, ◌≤◌, true, false, cond, List, [], ◌∷◌, length, slice_index, take, drop, drop-cons, refl, sym, ap, ◌∙◌, add-one, arith}
use Rattle.std.specs.List.{prefix_len}
use Rattle.std.proofs.lemmas.List.{drop_all}
use Rattle.span_base.specs.Name.{is_name_byte}

-- the name's bytes that are left from a place on
abbrev pub left_at : List ℕ → ℕ → ℕ
left_at xs i = prefix_len is_name_byte (take (32 - i) (drop i xs))

-- one byte more
next : (xs : List ℕ) (i : ℕ) → i < 32 → i < length xs → left_at xs i ≡ cond (is_name_byte (slice_index xs i)) (1 + left_at xs (i + 1)) 0
next xs i few inside =
    let count : 32 - i ≡ suc (32 - (i + 1)) = omega arith in
    ap (λ n. prefix_len is_name_byte (take n (drop i xs))) count
    ∙ ap (λ ys. prefix_len is_name_byte (take (suc (32 - (i + 1))) ys)) (drop-cons xs i 0 inside ∙ ap (λ n. slice_index xs i ∷ drop n xs) (sym (add-one i)))

pub len_goes_on : (xs : List ℕ) (i all : ℕ) → i < 32 → i < length xs → is_name_byte (slice_index xs i) ≡ true → all ≡ i + left_at xs i → all ≡ (i + 1) + left_at xs (i + 1)
len_goes_on xs i all few inside fits so_far =
    let e : left_at xs i ≡ 1 + left_at xs (i + 1) = next xs i few inside ∙ ap (λ b. cond b (1 + left_at xs (i + 1)) 0) fits in
    omega arith

pub len_stops : (xs : List ℕ) (i all : ℕ) → i < 32 → i < length xs → is_name_byte (slice_index xs i) ≡ false → all ≡ i + left_at xs i → all ≡ i
len_stops xs i all few inside fits so_far =
    let e : left_at xs i ≡ 0 = next xs i few inside ∙ ap (λ b. cond b (1 + left_at xs (i + 1)) 0) fits in
    omega arith

pub len_full : (xs : List ℕ) (i all : ℕ) → i ≡ 32 → all ≡ i + left_at xs i → all ≡ i
len_full xs i all full so_far =
    let none : 32 - i ≡ 0 = omega arith in
    let e : left_at xs i ≡ 0 = ap (λ n. prefix_len is_name_byte (take n (drop i xs))) none in
    omega arith

take_none : (n : ℕ) → prefix_len is_name_byte (take n []) ≡ 0
take_none n = elim n as (λ k. prefix_len is_name_byte (take k []) ≡ 0) [ zero ↦ refl | suc k ↦ refl ]

pub len_ends : (xs : List ℕ) (i all : ℕ) → length xs ≤ i → all ≡ i + left_at xs i → all ≡ i
len_ends xs i all past so_far =
    let e : left_at xs i ≡ 0 = ap (λ ys. prefix_len is_name_byte (take (32 - i) ys)) (drop_all i xs past) ∙ take_none (32 - i) in
    omega arith

pub ruleset name_lens = (len_goes_on, len_stops, len_full, len_ends)
