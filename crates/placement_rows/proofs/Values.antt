-- The value of an assignment, block by block, and the sums of rows.
use Rattle.std.proofs.Common.{◌≡◌, ℕ, zero, suc, ◌+◌, ◌*◌, ◌≤◌, pos, negsuc, ◌+ℤ◌, ◌≤ℤ◌, ℤ, Bool, true, false, cond, List, [], ◌∷◌, ◌++◌, drop, length, map, refl, sym, ap, subst, ◌∙◌, arith}
use Rattle.std.specs.List.{sum_by, count_by, range_with_len, flat_map, enumerate_from}
use Rattle.std.proofs.lemmas.Int.{ints}
use Rattle.std.proofs.lemmas.List.Sums.{sum_by-cons}
use Rattle.zero_one.specs.Rows.{bit_of, row_sum}
use Rattle.zero_one.specs.Program.{value_of}
use Rattle.placement_rows.specs.Rows.{plus, minus}

value-none : (costs : List ℕ) → value_of costs [] ≡ 0
value-none [] = refl
value-none (c ∷ costs) = refl

value-step : (c : ℕ) (costs : List ℕ) (x : List Bool) (j : ℕ) → value_of (c ∷ costs) (drop j x) ≡ cond (bit_of x j) c 0 + value_of costs (drop (suc j) x)
value-step c costs [] zero = omega (arith, value-none costs)
value-step c costs [] (suc j) = omega (arith, value-none costs)
value-step c costs (true ∷ x) zero = refl
value-step c costs (false ∷ x) zero = omega arith
value-step c costs (b ∷ x) (suc j) = value-step c costs x j

-- the value of costs joined
pub value-append : (cs bs : List ℕ) (x : List Bool) → value_of (cs ++ bs) x ≡ value_of cs x + value_of bs (drop (length cs) x)
value-append [] bs x = omega arith
value-append (c ∷ cs) bs [] = omega (arith, value-none bs)
value-append (c ∷ cs) bs (true ∷ x) = omega (arith, value-append cs bs x)
value-append (c ∷ cs) bs (false ∷ x) = omega (arith, value-append cs bs x)

-- what costs nothing has no value
pub value-nothing : {X : Type 0} (xs : List X) (x : List Bool) → value_of (map (λ e. 0) xs) x ≡ 0
value-nothing [] x = refl
value-nothing (e ∷ xs) [] = refl
value-nothing (e ∷ xs) (true ∷ x) = omega (arith, value-nothing xs x)
value-nothing (e ∷ xs) (false ∷ x) = value-nothing xs x

-- the value of a block that has a variable for each number of a range
pub value-block : (c : ℕ → ℕ) (rest : List ℕ) (x : List Bool) (o s n : ℕ)
    → value_of (map c (range_with_len s n) ++ rest) (drop (o + s) x) ≡ sum_by (λ d. cond (bit_of x (o + d)) (c d) 0) (range_with_len s n) + value_of rest (drop (o + (s + n)) x)
value-block c rest x o s zero =
    let same : s ≡ s + zero = omega arith in
    omega (arith, ap (λ j. value_of rest (drop (o + j) x)) same)
value-block c rest x o s (suc n) =
    let first = value-step (c s) (map c (range_with_len (s + 1) n) ++ rest) x (o + s) in
    let at : suc (o + s) ≡ o + (s + 1) = omega arith in
    let end : (s + 1) + n ≡ s + suc n = omega arith in
    omega (
      arith,
      first,
      ap (λ j. value_of (map c (range_with_len (s + 1) n) ++ rest) (drop j x)) at,
      value-block c rest x o (s + 1) n,
      ap (λ j. value_of rest (drop (o + j) x)) end,
      sum_by-cons (λ d. cond (bit_of x (o + d)) (c d) 0) s (range_with_len (s + 1) n),
    )

-- the value of blocks of one length, one for each of a list
pub value-blocks : {X : Type 0} (c : X → ℕ → ℕ) (n : ℕ) (x : List Bool) (a : ℕ) (ms : List X)
    → value_of (flat_map (λ m. map (c m) (range_with_len 0 n)) ms) (drop (n + a * n) x) ≡ sum_by (λ am. sum_by (λ d. cond (bit_of x (n + am.0 * n + d)) (c am.1 d) 0) (range_with_len 0 n)) (enumerate_from a ms)
value-blocks c n x a [] = refl
value-blocks {X} c n x a (m ∷ ms) =
    let rest = flat_map (λ m. map (c m) (range_with_len 0 n)) ms in
    let block = value-block (c m) rest x (n + a * n) 0 n in
    let from : n + a * n + 0 ≡ n + a * n = omega arith in
    let to : n + a * n + (0 + n) ≡ n + (a + 1) * n = omega arith in
    omega (
      arith,
      block,
      ap (λ j. value_of (map (c m) (range_with_len 0 n) ++ rest) (drop j x)) from,
      ap (λ j. value_of rest (drop j x)) to,
      value-blocks c n x (a + 1) ms,
      sum_by-cons (λ (am : ℕ × X). sum_by (λ d. cond (bit_of x (n + am.0 * n + d)) (c am.1 d) 0) (range_with_len 0 n)) (a, m) (enumerate_from (a + 1) ms),
    )

one-more : (b : Bool) (n : ℕ) → cond b (pos 1) (pos 0) +ℤ pos n ≡ pos (cond b 1 0 + n)
one-more true n = omega (arith, ints)
one-more false n = omega (arith, ints)

-- the sum of a row that adds variables is how many of them are 1
pub row_sum-plus : {X : Type 0} (x : List Bool) (g : X → ℕ) (ds : List X) → row_sum (map (λ d. plus (g d)) ds) x ≡ pos (count_by (λ d. bit_of x (g d)) ds)
row_sum-plus x g [] = refl
row_sum-plus x g (d ∷ ds) =
    ap (λ z. cond (bit_of x (g d)) (pos 1) (pos 0) +ℤ z) (row_sum-plus x g ds)
    ∙ one-more (bit_of x (g d)) (count_by (λ d. bit_of x (g d)) ds)
    ∙ ap pos (sym (sum_by-cons (λ d. cond (bit_of x (g d)) 1 0) d ds))

-- such a row is met where at least as many are 1 as its bound says
pub meets-plus : {X : Type 0} (x : List Bool) (g : X → ℕ) (ds : List X) (least : ℕ) → least ≤ count_by (λ d. bit_of x (g d)) ds → pos least ≤ℤ row_sum (map (λ d. plus (g d)) ds) x
meets-plus x g ds least h = rw (row_sum-plus x g ds) (omega (arith, ints))

pub meets-plus-back : {X : Type 0} (x : List Bool) (g : X → ℕ) (ds : List X) (least : ℕ) → pos least ≤ℤ row_sum (map (λ d. plus (g d)) ds) x → least ≤ count_by (λ d. bit_of x (g d)) ds
meets-plus-back x g ds least h = omega (arith, ints, row_sum-plus x g ds)

-- a row of two is met where its first variable is 1 if the second is
under : (p q : Bool) → (q ≡ true → p ≡ true) → pos 0 ≤ℤ (cond p (pos 1) (pos 0) +ℤ (cond q (negsuc 0) (pos 0) +ℤ pos 0))
under true true h = omega (arith, ints)
under true false h = omega (arith, ints)
under false true h = cc (h refl)
under false false h = omega (arith, ints)

under-back : (p q : Bool) → pos 0 ≤ℤ (cond p (pos 1) (pos 0) +ℤ (cond q (negsuc 0) (pos 0) +ℤ pos 0)) → q ≡ true → p ≡ true
under-back true q h e = refl
under-back false true h e = absurd (omega (arith, ints))
under-back false false h e = e

pub meets-under : (x : List Bool) (u v : ℕ) → (bit_of x v ≡ true → bit_of x u ≡ true) → pos 0 ≤ℤ row_sum (plus u ∷ minus v ∷ []) x
meets-under x u v h = under (bit_of x u) (bit_of x v) h

pub meets-under-back : (x : List Bool) (u v : ℕ) → pos 0 ≤ℤ row_sum (plus u ∷ minus v ∷ []) x → bit_of x v ≡ true → bit_of x u ≡ true
meets-under-back x u v h = under-back (bit_of x u) (bit_of x v) h

one-more_of : (b : Bool) (c : ℕ) (t : ℤ) → cond b (pos 1) (pos 0) +ℤ (pos c +ℤ t) ≡ pos (cond b 1 0 + c) +ℤ t
one-more_of true c t = omega (arith, ints)
one-more_of false c t = omega (arith, ints)

less-one : (x : List Bool) (last : ℕ) → row_sum (minus last ∷ []) x ≡ pos 0 +ℤ (cond (bit_of x last) (negsuc 0) (pos 0) +ℤ pos 0)
less-one x last = omega (arith, ints)

-- the sum of a row that takes a variable from others: how many of these are 1, less one if that one is
row_sum-backed : {X : Type 0} (x : List Bool) (g : X → ℕ) (ds : List X) (last : ℕ)
    → row_sum (map (λ d. plus (g d)) ds ++ minus last ∷ []) x ≡ pos (count_by (λ d. bit_of x (g d)) ds) +ℤ (cond (bit_of x last) (negsuc 0) (pos 0) +ℤ pos 0)
row_sum-backed x g [] last = less-one x last
row_sum-backed x g (d ∷ ds) last =
    let t : ℤ = cond (bit_of x last) (negsuc 0) (pos 0) +ℤ pos 0 in
    ap (λ z. cond (bit_of x (g d)) (pos 1) (pos 0) +ℤ z) (row_sum-backed x g ds last)
    ∙ one-more_of (bit_of x (g d)) (count_by (λ d. bit_of x (g d)) ds) t
    ∙ ap (λ k. pos k +ℤ t) (sym (sum_by-cons (λ d. cond (bit_of x (g d)) 1 0) d ds))

enough : (q : Bool) (c : ℕ) → (q ≡ true → 1 ≤ c) → pos 0 ≤ℤ (pos c +ℤ (cond q (negsuc 0) (pos 0) +ℤ pos 0))
enough true c h = let some = h refl in omega (arith, ints, some)
enough false c h = omega (arith, ints)

enough-back : (q : Bool) (c : ℕ) → pos 0 ≤ℤ (pos c +ℤ (cond q (negsuc 0) (pos 0) +ℤ pos 0)) → q ≡ true → 1 ≤ c
enough-back true c h e = omega (arith, ints)
enough-back false c h e = cc

-- such a row is met where one of the others is 1 if that one is
pub meets-backed : {X : Type 0} (x : List Bool) (g : X → ℕ) (ds : List X) (last : ℕ) → (bit_of x last ≡ true → 1 ≤ count_by (λ d. bit_of x (g d)) ds) → pos 0 ≤ℤ row_sum (map (λ d. plus (g d)) ds ++ minus last ∷ []) x
meets-backed x g ds last h = subst (λ z. pos 0 ≤ℤ z) (sym (row_sum-backed x g ds last)) (enough (bit_of x last) (count_by (λ d. bit_of x (g d)) ds) h)

pub meets-backed-back : {X : Type 0} (x : List Bool) (g : X → ℕ) (ds : List X) (last : ℕ) → pos 0 ≤ℤ row_sum (map (λ d. plus (g d)) ds ++ minus last ∷ []) x → bit_of x last ≡ true → 1 ≤ count_by (λ d. bit_of x (g d)) ds
meets-backed-back x g ds last h = enough-back (bit_of x last) (count_by (λ d. bit_of x (g d)) ds) (subst (λ z. pos 0 ≤ℤ z) (row_sum-backed x g ds last) h)

ready : (q : Bool) (c : ℕ) → (q ≡ true → 1 ≤ c) → pos 0 ≤ℤ (cond q (negsuc 0) (pos 0) +ℤ pos c)
ready true c h = let some = h refl in omega (arith, ints, some)
ready false c h = omega (arith, ints)

ready-back : (q : Bool) (c : ℕ) → pos 0 ≤ℤ (cond q (negsuc 0) (pos 0) +ℤ pos c) → q ≡ true → 1 ≤ c
ready-back true c h e = omega (arith, ints)
ready-back false c h e = cc

-- a row that takes its first variable from the others is met where one of these is 1 if that one is
pub meets-answered : {X : Type 0} (x : List Bool) (g : X → ℕ) (ds : List X) (first : ℕ) → (bit_of x first ≡ true → 1 ≤ count_by (λ d. bit_of x (g d)) ds) → pos 0 ≤ℤ row_sum (minus first ∷ map (λ d. plus (g d)) ds) x
meets-answered x g ds first h = subst (λ z. pos 0 ≤ℤ (cond (bit_of x first) (negsuc 0) (pos 0) +ℤ z)) (sym (row_sum-plus x g ds)) (ready (bit_of x first) (count_by (λ d. bit_of x (g d)) ds) h)

pub meets-answered-back : {X : Type 0} (x : List Bool) (g : X → ℕ) (ds : List X) (first : ℕ) → pos 0 ≤ℤ row_sum (minus first ∷ map (λ d. plus (g d)) ds) x → bit_of x first ≡ true → 1 ≤ count_by (λ d. bit_of x (g d)) ds
meets-answered-back x g ds first h = ready-back (bit_of x first) (count_by (λ d. bit_of x (g d)) ds) (subst (λ z. pos 0 ≤ℤ (cond (bit_of x first) (negsuc 0) (pos 0) +ℤ z)) (row_sum-plus x g ds) h)
