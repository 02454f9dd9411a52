-- Lists that are made of pieces of one length: how long they are, what stands where in them, and
-- their value as costs.
use Rattle.std.proofs.Common.{◌≡◌, ℕ, zero, suc, ◌+◌, ◌*◌, ◌<◌, ◌≤◌, Bool, cond, List, [], ◌∷◌, ◌++◌, length, drop, get_or, map, refl, sym, ap, ◌∙◌, arith}
use Rattle.std.proofs.Math.Nat.{mul_assoc}
use Rattle.std.specs.List.{sum_by, range_with_len, flat_map, enumerate_from}
use Rattle.std.proofs.lemmas.Nat.{mul-le}
use Rattle.std.proofs.lemmas.List.{append-nil, drop-drop, length-append, get_or_append_left, get_or-append-add}
use Rattle.std.proofs.lemmas.List.FromFn.{length-range_with_len, get_or-range_with_len, length-map-range_with_len}
use Rattle.std.proofs.lemmas.List.Sums.{sum_by-cons}
use Rattle.zero_one.specs.Rows.{bit_of}
use Rattle.zero_one.specs.Program.{value_of}
use Rattle.placement_rows.proofs.Sums.{sum_by-agree, length-blocks, get_or-blocks}
use Rattle.placement_rows.proofs.Values.{value-append, value-block}

pub length-pieces : {Y A : Type 0} (f : Y → List A) (size : ℕ) → ((y : Y) → length (f y) ≡ size) → (ys : List Y) → length (flat_map f ys) ≡ length ys * size
length-pieces f size each [] = omega arith
length-pieces f size each (y ∷ ys) = omega (arith, length-append (f y) (flat_map f ys), each y, length-pieces f size each ys)

pub length-pieces-le : {Y A : Type 0} (f : Y → List A) (size : ℕ) → ((y : Y) → length (f y) ≤ size) → (ys : List Y) → length (flat_map f ys) ≤ length ys * size
length-pieces-le f size each [] = omega arith
length-pieces-le f size each (y ∷ ys) = omega (arith, length-append (f y) (flat_map f ys), each y, length-pieces-le f size each ys)

pub get_or-pieces : {Y A : Type 0} (f : Y → List A) (size : ℕ) → ((y : Y) → length (f y) ≡ size) → (ys : List Y) (a i : ℕ) (e : Y) (z : A) → a < length ys → i < size
    → get_or (flat_map f ys) (a * size + i) z ≡ get_or (f (get_or ys a e)) i z
get_or-pieces f size each [] a i e z in' low = absurd (omega arith)
get_or-pieces f size each (y ∷ ys) zero i e z in' low =
    let at : 0 * size + i ≡ i = omega arith in
    ap (λ k. get_or (f y ++ flat_map f ys) k z) at ∙ get_or_append_left (f y) (flat_map f ys) z i (omega (arith, each y, low))
get_or-pieces f size each (y ∷ ys) (suc a) i e z in' low =
    let at : suc a * size + i ≡ size + (a * size + i) = omega arith in
    ap (λ k. get_or (f y ++ flat_map f ys) k z) at
    ∙ ap (λ k. get_or (f y ++ flat_map f ys) (k + (a * size + i)) z) (sym (each y))
    ∙ get_or-append-add (f y) (flat_map f ys) (a * size + i) z
    ∙ get_or-pieces f size each ys a i e z (omega arith) low

value-next : (cs bs : List ℕ) (size o a : ℕ) (x : List Bool) → length cs ≡ size → value_of (cs ++ bs) (drop (o + a * size) x) ≡ value_of cs (drop (o + a * size) x) + value_of bs (drop (o + (a + 1) * size) x)
value-next cs bs size o a x long =
    let past : (o + a * size) + length cs ≡ o + (a + 1) * size = omega (arith, long) in
    value-append cs bs (drop (o + a * size) x)
    ∙ ap (λ y. value_of cs (drop (o + a * size) x) + value_of bs y) (drop-drop (length cs) (o + a * size) x ∙ ap (λ k. drop k x) past)

-- the value of pieces is the sum of theirs
pub value-pieces : {Y : Type 0} (f : Y → List ℕ) (size : ℕ) → ((y : Y) → length (f y) ≡ size) → (x : List Bool) (o a : ℕ) (ys : List Y)
    → value_of (flat_map f ys) (drop (o + a * size) x) ≡ sum_by (λ ay. value_of (f ay.1) (drop (o + ay.0 * size) x)) (enumerate_from a ys)
value-pieces f size each x o a [] = refl
value-pieces {Y} f size each x o a (y ∷ ys) =
    omega (
      arith,
      value-next (f y) (flat_map f ys) size o a x (each y),
      value-pieces f size each x o (a + 1) ys,
      sum_by-cons (λ (ay : ℕ × Y). value_of (f ay.1) (drop (o + ay.0 * size) x)) (a, y) (enumerate_from (a + 1) ys),
    )

value-range : (f : ℕ → List ℕ) (size : ℕ) → ((p : ℕ) → length (f p) ≡ size) → (x : List Bool) (o s n : ℕ)
    → value_of (flat_map f (range_with_len s n)) (drop (o + s * size) x) ≡ sum_by (λ p. value_of (f p) (drop (o + p * size) x)) (range_with_len s n)
value-range f size each x o s zero = refl
value-range f size each x o s (suc n) =
    omega (
      arith,
      value-next (f s) (flat_map f (range_with_len (s + 1) n)) size o s x (each s),
      value-range f size each x o (s + 1) n,
      sum_by-cons (λ p. value_of (f p) (drop (o + p * size) x)) s (range_with_len (s + 1) n),
    )

value-line : (c : ℕ → ℕ) (n o : ℕ) (x : List Bool) → value_of (map c (range_with_len 0 n)) (drop o x) ≡ sum_by (λ d. cond (bit_of x (o + d)) (c d) 0) (range_with_len 0 n)
value-line c n o x =
    let from : o ≡ o + 0 = omega arith in
    let cs = map c (range_with_len 0 n) in
    let block = value-block c [] x o 0 n in
    let nothing : value_of [] (drop (o + (0 + n)) x) ≡ 0 = refl in
    ap (λ k. value_of cs (drop k x)) from
    ∙ ap (λ ds. value_of ds (drop (o + 0) x)) (sym (append-nil cs))
    ∙ block
    ∙ (let e : sum_by (λ d. cond (bit_of x (o + d)) (c d) 0) (range_with_len 0 n) + value_of [] (drop (o + (0 + n)) x) ≡ sum_by (λ d. cond (bit_of x (o + d)) (c d) 0) (range_with_len 0 n) = omega (arith, nothing) in e)

-- squares of numbers: a row of `n` numbers for each of `n`, and such a square for each of a list
pub length-square : {A : Type 0} (g : ℕ → ℕ → A) (n : ℕ) → length (flat_map (λ p. map (g p) (range_with_len 0 n)) (range_with_len 0 n)) ≡ n * n
length-square g n = length-blocks g n (range_with_len 0 n) ∙ ap (λ k. k * n) (length-range_with_len 0 n)

pub get_or-squares : {Y A : Type 0} (g : Y → ℕ → ℕ → A) (n : ℕ) (ys : List Y) (a p d : ℕ) (e : Y) (z : A) → a < length ys → p < n → d < n
    → get_or (flat_map (λ y. flat_map (λ p. map (g y p) (range_with_len 0 n)) (range_with_len 0 n)) ys) (a * n * n + p * n + d) z ≡ g (get_or ys a e) p d
get_or-squares {Y} {A} g n ys a p d e z in' low low' =
    let square : Y → List A = λ y. flat_map (λ p. map (g y p) (range_with_len 0 n)) (range_with_len 0 n) in
    let line : (p + 1) * n ≤ n * n = mul-le (p + 1) n n n (omega arith) (omega arith) in
    let at : a * n * n + p * n + d ≡ a * (n * n) + (p * n + d) = omega (arith, mul_assoc a n n) in
    let here : 0 + p ≡ p = omega arith in
    ap (λ k. get_or (flat_map square ys) k z) at
    ∙ get_or-pieces square (n * n) (λ y. length-square (g y) n) ys a (p * n + d) e z in' (omega (arith, line))
    ∙ get_or-blocks (g (get_or ys a e)) n (range_with_len 0 n) p d 0 z (omega (arith, length-range_with_len 0 n)) low'
    ∙ ap (λ k. g (get_or ys a e) k d) (get_or-range_with_len 0 n p 0 low ∙ here)

-- the value of squares of costs
pub value-squares : {Y : Type 0} (c : Y → ℕ → ℕ → ℕ) (n : ℕ) (x : List Bool) (o : ℕ) (ys : List Y)
    → value_of (flat_map (λ y. flat_map (λ p. map (c y p) (range_with_len 0 n)) (range_with_len 0 n)) ys) (drop o x)
    ≡ sum_by (λ ay. sum_by (λ p. sum_by (λ d. cond (bit_of x (o + ay.0 * n * n + p * n + d)) (c ay.1 p d) 0) (range_with_len 0 n)) (range_with_len 0 n)) (enumerate_from 0 ys)
value-squares {Y} c n x o ys =
    let lines : Y → List ℕ = λ y. flat_map (λ p. map (c y p) (range_with_len 0 n)) (range_with_len 0 n) in
    let from : o ≡ o + 0 * (n * n) = omega arith in
    ap (λ k. value_of (flat_map lines ys) (drop k x)) from
    ∙ value-pieces lines (n * n) (λ y. length-square (c y) n) x o 0 ys
    ∙ sum_by-agree (λ ay. value_of (lines ay.1) (drop (o + ay.0 * (n * n)) x)) (λ ay. sum_by (λ p. sum_by (λ d. cond (bit_of x (o + ay.0 * n * n + p * n + d)) (c ay.1 p d) 0) (range_with_len 0 n)) (range_with_len 0 n)) (λ ay. square ay.0 ay.1) (enumerate_from 0 ys)
  where
    square : (a : ℕ) (y : Y) → value_of (flat_map (λ p. map (c y p) (range_with_len 0 n)) (range_with_len 0 n)) (drop (o + a * (n * n)) x) ≡ sum_by (λ p. sum_by (λ d. cond (bit_of x (o + a * n * n + p * n + d)) (c y p d) 0) (range_with_len 0 n)) (range_with_len 0 n)
    square a y =
        let at : o + a * (n * n) ≡ o + a * n * n + 0 * n = omega (arith, mul_assoc a n n) in
        ap (λ k. value_of (flat_map (λ p. map (c y p) (range_with_len 0 n)) (range_with_len 0 n)) (drop k x)) at
        ∙ value-range (λ p. map (c y p) (range_with_len 0 n)) n (λ p. length-map-range_with_len (c y p) 0 n) x (o + a * n * n) 0 n
        ∙ sum_by-agree (λ p. value_of (map (c y p) (range_with_len 0 n)) (drop (o + a * n * n + p * n) x)) (λ p. sum_by (λ d. cond (bit_of x (o + a * n * n + p * n + d)) (c y p d) 0) (range_with_len 0 n)) (λ p. value-line (c y p) n (o + a * n * n + p * n) x) (range_with_len 0 n)
