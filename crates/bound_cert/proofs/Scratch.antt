-- The steps by which the bound of a leaf is worked out in a scratch space.
use Rattle.std.proofs.Common.{◌≡◌, ◌≢◌, ℕ, zero, suc, ◌+◌, ◌*◌, ◌^◌, ◌<◌, ◌≤◌, inl, inr, ℤ, pos, negsuc, ◌+ℤ◌, ◌-ℤ◌, ◌*ℤ◌, unsigned_abs, Bool, true, false, cond, Option, Some, None, List, [], ◌∷◌, length, get_or, set, take, drop, map, to_z, of_z, FitsSigned, refl, ap, ◌∙◌, arith, add-one, sum_by, get_or-set_other, get_or-set_same}
use Rattle.std.specs.Prelude.{◌==◌}
use Rattle.std.specs.Int.{w128}
use Rattle.std.specs.List.{All}
use Rattle.std.specs.List.Sorted.{IsStrictlyIncreasing}
use Rattle.std.proofs.Math.Nat.{mul-le-mul_left, mul-le-mul_right}
use Rattle.std.proofs.lemmas.Int.{ints, clamps, unsigned_abs-mul, fits_signed_from_abs, to_z_pos}
use Rattle.std.proofs.lemmas.Bool.{cases_eq}
use Rattle.std.proofs.lemmas.Bool.Decides.{nat_tests}
use Rattle.std.proofs.lemmas.List.{length-map}
use Rattle.std.proofs.lemmas.List.Sums.{sum_by-set, sum_by_more, sum_by-cons, get_or-le-sum_by, sum_by-take-drop, sum_by-take-le, sum_by-drop_more, sum_by-le}
use Rattle.std.proofs.lemmas.List.Elements.{All-head, All-tail, All-from_get_or}
use Rattle.zero_one.specs.declared.rows.Entry.{Entry}
use Rattle.zero_one.specs.declared.rows.Row.{Row}
use Rattle.zero_one.specs.Rows.{row_weight, weight_of}
use Rattle.bound_cert.specs.declared.leaves.Pair.{Pair}
use Rattle.bound_cert.specs.Leaves.{row_at, coef_of, bound_part, column_part, least_of, sum_below}
use Rattle.bound_cert.specs.Sizes.{coefs_size, pairs_weight}
use Rattle.zero_one.proofs.IntSums.{int_sum_by_more}
use Rattle.bound_cert.proofs.Scaled.{scale_add}

-- the entry past the end
abbrev pub no_entry : Entry
no_entry = record { var = 0; coef = pos 0 }

-- the pair past the end
abbrev pub no_pair : Pair
no_pair = record { row = 0; mult = 0 }

pub fits_small : (z : ℤ) → unsigned_abs z < 2 ^ 127 → FitsSigned w128 z
fits_small z small = fits_signed_from_abs w128 z small

pub scaled_abs : (mult : ℕ) (z : ℤ) → unsigned_abs (pos mult *ℤ z) ≡ mult * unsigned_abs z
scaled_abs mult z = unsigned_abs-mul (pos mult) z

-- ---- one entry taken off the place of its variable

same : (m : ℕ) → (m == m) ≡ true
same m = grind (arith, nat_tests)

other : (m n : ℕ) → n ≢ m → (m == n) ≡ false
other m n h = grind (arith, nat_tests)

cond_true : (t : Bool) (c : ℤ) → t ≡ true → cond t c (pos 0) ≡ c
cond_true true c e = refl
cond_true false c e = absurd (cc)

cond_false : (t : Bool) (c : ℤ) → t ≡ false → cond t c (pos 0) ≡ pos 0
cond_false true c e = absurd (cc)
cond_false false c e = refl

coef_of_more : (entries : List Entry) (i var : ℕ) → i < length entries → coef_of (take (i + 1) entries) var ≡ coef_of (take i entries) var +ℤ cond ((get_or entries i no_entry).var == var) (get_or entries i no_entry).coef (pos 0)
coef_of_more entries i var h = int_sum_by_more (λ (e : Entry). cond (e.var == var) e.coef (pos 0)) entries i no_entry h

pub entry_taken : (entries : List Entry) (i v mult : ℕ) (coef y : ℤ) (scratch old : List ℤ) → i < length entries → v ≡ (get_or entries i no_entry).var → coef ≡ (get_or entries i no_entry).coef → v < length scratch → y ≡ get_or scratch v (pos 0) -ℤ (pos mult *ℤ coef) → ((var : ℕ) → get_or scratch var (pos 0) ≡ get_or old var (pos 0) -ℤ (pos mult *ℤ coef_of (take i entries) var)) → (var : ℕ) → get_or (set scratch v y) var (pos 0) ≡ get_or old var (pos 0) -ℤ (pos mult *ℤ coef_of (take (i + 1) entries) var)
entry_taken entries i v mult coef y scratch old h ve ce inside ye before var =
    let more = coef_of_more entries i var h in
    let more' = rw (← ve, ← ce) at more in
    let added = scale_add mult (coef_of (take i entries) var) coef in
    elim (cases_eq var v) [
      | inl is ↦
          let more'' : coef_of (take (i + 1) entries) var ≡ coef_of (take i entries) var +ℤ coef = more' ∙ ap (λ z. coef_of (take i entries) var +ℤ z) (cond_true (v == var) coef (rw is (same v))) in
          rw (more'', is, get_or-set_same) (let b = before v in let added' = rw is at added in omega (arith, ints, b, ye, added'))
      | inr not ↦
          let apart : var ≢ v = not in
          let more'' : coef_of (take (i + 1) entries) var ≡ coef_of (take i entries) var = (let gone = cond_false (v == var) coef (other v var apart) in omega (arith, ints, more', gone)) in
          rw (more'', get_or-set_other) (before var)
    ]

pub entry_size : (entries : List Entry) (i v mult : ℕ) (coef y : ℤ) (scratch : List ℤ) (m : ℕ) → i < length entries → coef ≡ (get_or entries i no_entry).coef → v < length scratch → y ≡ get_or scratch v (pos 0) -ℤ (pos mult *ℤ coef) → sum_by unsigned_abs scratch ≤ m + mult * coefs_size (take i entries) → sum_by unsigned_abs (set scratch v y) ≤ m + mult * coefs_size (take (i + 1) entries)
entry_size entries i v mult coef y scratch m h ce inside ye before =
    let changed = sum_by-set unsigned_abs scratch v y (pos 0) inside in
    let more = rw (← ce) at (sum_by_more (λ (e : Entry). unsigned_abs e.coef) entries i no_entry h) in
    let scaled = ap (λ n. mult * n) more in
    omega (arith, ints, changed, scaled, ye, scaled_abs mult coef, before)

pub coef_small : (entries : List Entry) (i mult : ℕ) (coef : ℤ) → i < length entries → coef ≡ (get_or entries i no_entry).coef → unsigned_abs (pos mult *ℤ coef) ≤ mult * coefs_size entries
coef_small entries i mult coef h ce =
    let one = get_or-le-sum_by (λ (e : Entry). unsigned_abs e.coef) entries i no_entry h in
    let one' = rw (← ce) at one in
    let scaled : mult * unsigned_abs coef ≤ mult * coefs_size entries = mul-le-mul_left mult one' in
    omega (arith, scaled, scaled_abs mult coef)

-- what the code writes, where nothing overflows
pub sub_fits : (g p q : ℤ) → p ≡ q → FitsSigned w128 g → FitsSigned w128 q → FitsSigned w128 (g -ℤ q) → FitsSigned w128 (to_z w128 (of_z w128 g) -ℤ to_z w128 (of_z w128 p))
sub_fits g p q e fg fq fs = rw e (omega (arith, ints, fg, fq, fs))

pub sub_written : (g p q : ℤ) → p ≡ q → FitsSigned w128 g → FitsSigned w128 q → FitsSigned w128 (g -ℤ q) → to_z w128 (of_z w128 (to_z w128 (of_z w128 g) -ℤ to_z w128 (of_z w128 p))) ≡ g -ℤ q
sub_written g p q e fg fq fs = rw e (omega (arith, ints, fg, fq, fs))

-- the product as the code has it
pub product_is : (mult : ℕ) (r coef : ℤ) → mult < 2 ^ 127 → r ≡ coef → FitsSigned w128 coef → to_z w128 mult *ℤ to_z w128 (of_z w128 r) ≡ pos mult *ℤ coef
product_is mult r coef small e fits =
    let e1 : to_z w128 mult ≡ pos mult = to_z_pos w128 mult small in
    let e2 : to_z w128 (of_z w128 r) ≡ coef = omega (arith, ints, e, fits) in
    rw (e1, e2) refl

-- ---- the least that the variables add

pub least_of_abs : (bit : Option Bool) (r : ℤ) → unsigned_abs (least_of bit r) ≤ unsigned_abs r
least_of_abs (Some true) r = omega arith
least_of_abs (Some false) r = omega arith
least_of_abs None (pos n) = omega (arith, ints, clamps)
least_of_abs None (negsuc n) = omega (arith, ints, clamps)

pub below_more : (part : ℕ → ℤ) (i : ℕ) → sum_below (i + 1) part ≡ sum_below i part +ℤ part i
below_more part i = rw add-one refl

pub below_same : (n : ℕ) (f g : ℕ → ℤ) → ((i : ℕ) → i < n → f i ≡ g i) → sum_below n f ≡ sum_below n g
below_same zero f g h = refl
below_same (suc n) f g h = omega (arith, ints, below_same n f g (λ i inside. h i (omega arith)), h n (omega arith))

-- ---- the rows of pairs

pub same_default : {X : Type 0} (xs : List X) (i : ℕ) (d e : X) → i < length xs → get_or xs i d ≡ get_or xs i e
same_default [] i d e h = absurd (omega arith)
same_default (x ∷ xs) zero d e h = refl
same_default (x ∷ xs) (suc i) d e h = same_default xs i d e (omega arith)

pub row_is : (rows : List Row) (i : ℕ) (row : Row) → i < length rows → row ≡ get_or rows i row → row ≡ row_at rows i
row_is rows i row h e = e ∙ same_default rows i row (record { entries = []; bound = pos 0 }) h

pub bound_part_more : (rows : List Row) (pairs : List Pair) (i : ℕ) → i < length pairs → bound_part rows (take (i + 1) pairs) ≡ bound_part rows (take i pairs) +ℤ (pos (get_or pairs i no_pair).mult *ℤ (row_at rows (get_or pairs i no_pair).row).bound)
bound_part_more rows pairs i h = int_sum_by_more (λ (p : Pair). pos p.mult *ℤ (row_at rows p.row).bound) pairs i no_pair h

pub column_part_more : (rows : List Row) (pairs : List Pair) (i var : ℕ) → i < length pairs → column_part rows (take (i + 1) pairs) var ≡ column_part rows (take i pairs) var +ℤ (pos (get_or pairs i no_pair).mult *ℤ coef_of (row_at rows (get_or pairs i no_pair).row).entries var)
column_part_more rows pairs i var h = int_sum_by_more (λ (p : Pair). pos p.mult *ℤ coef_of (row_at rows p.row).entries var) pairs i no_pair h

pub pairs_weight_more : (rows : List Row) (pairs : List Pair) (i : ℕ) → i < length pairs → pairs_weight rows (take (i + 1) pairs) ≡ pairs_weight rows (take i pairs) + row_weight (row_at rows (get_or pairs i no_pair).row)
pairs_weight_more rows pairs i h = sum_by_more (λ (p : Pair). row_weight (row_at rows p.row)) pairs i no_pair h

pub pairs_weight_front : (rows : List Row) (pairs : List Pair) (i : ℕ) → pairs_weight rows (take i pairs) ≤ pairs_weight rows pairs
pairs_weight_front rows pairs i = sum_by-take-le (λ (p : Pair). row_weight (row_at rows p.row)) pairs i

-- ---- rows that rise weigh no more than all rows

RiseFrom : ℕ → List Pair → Type 0
RiseFrom low [] = Unit {0}
RiseFrom low (p ∷ ps) = (low ≤ p.row) × RiseFrom (suc p.row) ps

rise_from : (low : ℕ) (ps : List Pair) → IsStrictlyIncreasing (map (λ (p : Pair). p.row) ps) → (0 < length ps → low ≤ get_or (map (λ (p : Pair). p.row) ps) 0 0) → RiseFrom low ps
unfolding RiseFrom
rise_from low [] rises first = tt
rise_from low (p ∷ ps) rises first = (
  first (omega arith),
  rise_from (suc p.row) ps
      (λ k h. simp add-one (simp add-one at (rises (suc k) (omega arith))))
      (λ h. let up = rises 0 (let n : length (map (λ (p : Pair). p.row) ps) ≡ length ps = length-map ps (λ (p : Pair). p.row) in omega arith) in omega arith),
)

-- the rows from a later place on weigh no more than those from an earlier one
drop_le : (rows : List Row) (low at : ℕ) → low ≤ at → sum_by row_weight (drop at rows) ≤ sum_by row_weight (drop low rows)
drop_le [] low at h = omega (arith, none low, none at)
  where
    none : (n : ℕ) → sum_by row_weight (drop n []) ≡ 0
    none zero = refl
    none (suc n) = refl
drop_le (row ∷ rows) zero zero h = omega arith
drop_le (row ∷ rows) zero (suc at) h = omega (arith, drop_le rows zero at (omega arith), sum_by-cons row_weight row rows, whole rows)
  where
    whole : (rs : List Row) → sum_by row_weight (drop 0 rs) ≡ sum_by row_weight rs
    whole [] = refl
    whole (r ∷ rs) = refl
drop_le (row ∷ rows) (suc low) zero h = absurd (omega arith)
drop_le (row ∷ rows) (suc low) (suc at) h = drop_le rows low at (omega arith)

rising_weight : (rows : List Row) (low : ℕ) (ps : List Pair) → RiseFrom low ps → All (λ (p : Pair). p.row < length rows) ps → pairs_weight rows ps ≤ sum_by row_weight (drop low rows)
unfolding RiseFrom
rising_weight rows low [] rises existing = omega arith
rising_weight rows low (p ∷ ps) rises existing =
    let here : p.row < length rows = All-head (λ (q : Pair). q.row < length rows) p ps existing in
    let rest = rising_weight rows (suc p.row) ps rises.1 (All-tail (λ (q : Pair). q.row < length rows) p ps existing) in
    let split = rw add-one at (sum_by-drop_more row_weight rows p.row (record { entries = []; bound = pos 0 }) here) in
    omega (arith, rest, split, sum_by-cons (λ (q : Pair). row_weight (row_at rows q.row)) p ps, drop_le rows low p.row rises.0)

pub pairs_weight_le : (rows : List Row) (ps : List Pair) → IsStrictlyIncreasing (map (λ (p : Pair). p.row) ps) → All (λ (p : Pair). p.row < length rows) ps → pairs_weight rows ps ≤ weight_of rows
pairs_weight_le rows ps rising existing =
    omega (arith, rising_weight rows 0 ps (rise_from 0 ps rising (λ _. omega arith)) existing, sum_by-take-drop row_weight rows 0)

-- a pair's row, taken by its multiplier, is no larger than its weight allows
pub pair_size : (mult : ℕ) (row : Row) → mult ≤ 10 ^ 30 → unsigned_abs (pos mult *ℤ row.bound) + mult * coefs_size row.entries ≤ 10 ^ 30 * row_weight row
pair_size mult row h =
    let most : mult * row_weight row ≤ 10 ^ 30 * row_weight row = mul-le-mul_right (row_weight row) h in
    omega (arith, most, scaled_abs mult row.bound)

-- the facts of a step over the pairs
pub record PairStep (rows : List Row) (pairs : List Pair) (i : ℕ) (row : Row) : Type 0 where
  pub is : row ≡ row_at rows (get_or pairs i no_pair).row
  pub weight : pairs_weight rows (take (i + 1) pairs) ≡ pairs_weight rows (take i pairs) + row_weight row
  pub light : pairs_weight rows (take (i + 1) pairs) ≤ 10 ^ 7
  pub range : (get_or pairs i no_pair).mult ≤ 10 ^ 30
  pub size : unsigned_abs (pos (get_or pairs i no_pair).mult *ℤ row.bound) + (get_or pairs i no_pair).mult * coefs_size row.entries ≤ 10 ^ 30 * row_weight row

pub pair_step : (rows : List Row) (pairs : List Pair) (i at : ℕ) (row : Row) → i < length pairs → All (λ (p : Pair). p.row < length rows) pairs → All (λ (p : Pair). p.mult ≤ 10 ^ 30) pairs → pairs_weight rows pairs ≤ 10 ^ 7 → at ≡ (get_or pairs i no_pair).row → row ≡ get_or rows at row → PairStep rows pairs i row
pair_step rows pairs i at row inside existing ranges light at_is read =
    let read' = rw at_is at read in
    let is = row_is rows (get_or pairs i no_pair).row row (existing i no_pair inside) read' in
    record {
      is = is;
      weight = (rw (← is) at (pairs_weight_more rows pairs i inside));
      light = omega (arith, pairs_weight_front rows pairs (i + 1), light);
      range = ranges i no_pair inside;
      size = pair_size (get_or pairs i no_pair).mult row (ranges i no_pair inside);
    }

-- a sum with one more product, where nothing overflows
pub add_fits : (a p q : ℤ) → p ≡ q → FitsSigned w128 q → FitsSigned w128 (a +ℤ q) → FitsSigned w128 (a +ℤ to_z w128 (of_z w128 p))
add_fits a p q e fq fs = rw e (omega (arith, ints, fq, fs))

pub add_written : (a p q : ℤ) → p ≡ q → FitsSigned w128 q → FitsSigned w128 (a +ℤ q) → to_z w128 (of_z w128 (a +ℤ to_z w128 (of_z w128 p))) ≡ a +ℤ q
add_written a p q e fq fs = rw e (omega (arith, ints, fq, fs))

-- scaled costs, added up in size
pub scaled_costs_size : (s : ℕ) (costs : List ℕ) (scratch : List ℤ) → s ≤ 10 ^ 6 → All (λ cost. cost < 10 ^ 24) costs → length scratch ≡ length costs → ((var : ℕ) → var < length costs → get_or scratch var (pos 0) ≡ pos (s * get_or costs var 0)) → sum_by unsigned_abs scratch ≤ length costs * 10 ^ 30
scaled_costs_size s costs scratch small cheap same_length each =
    let all : All (λ z. unsigned_abs z ≤ 10 ^ 30) scratch =
    All-from_get_or (λ z. unsigned_abs z ≤ 10 ^ 30) scratch (pos 0) (λ i inside.
    let there : i < length costs = omega arith in
    let cost = get_or costs i 0 in
    let scaled : s * get_or costs i 0 ≤ 10 ^ 6 * get_or costs i 0 = mul-le-mul_right cost small in
    let low : get_or costs i 0 < 10 ^ 24 = cheap i 0 there in
    rw (each i there) (omega arith)) in
    rw (← same_length) (sum_by-le unsigned_abs (10 ^ 30) scratch all)

-- a scaled cost, as the code writes it
pub cost_written : (s cost : ℕ) → s ≤ 10 ^ 6 → cost < 10 ^ 24 → to_z w128 (s * cost) ≡ pos (s * cost)
cost_written s cost small cheap =
    let scaled : s * cost ≤ 10 ^ 6 * cost = mul-le-mul_right cost small in
    to_z_pos w128 (s * cost) (omega arith)
