-- The bound of a leaf of one row: that of the leaf without the row, and what the row changes.
use Rattle.std.proofs.Common.{◌≡◌, ◌≢◌, ℕ, zero, suc, ◌*◌, ◌<◌, inl, inr, ℤ, pos, ◌+ℤ◌, ◌-ℤ◌, ◌*ℤ◌, Bool, true, false, cond, Option, List, [], ◌∷◌, length, get_or, map, refl, ap, ◌∙◌, arith, add-one}
use Rattle.std.specs.Prelude.{◌==◌}
use Rattle.std.specs.List.{All}
use Rattle.std.specs.List.Sorted.{IsStrictlyIncreasing}
use Rattle.std.proofs.lemmas.Int.{ints}
use Rattle.std.proofs.lemmas.Bool.{cases_lt}
use Rattle.std.proofs.lemmas.Bool.Decides.{nat_tests}
use Rattle.std.proofs.lemmas.List.Elements.{All-nil, All-cons, All-head, All-tail, All-weaker}
use Rattle.zero_one.specs.declared.rows.Entry.{Entry}
use Rattle.zero_one.specs.declared.rows.Row.{Row}
use Rattle.zero_one.specs.Contents.{Contents}
use Rattle.zero_one.specs.Sums.{int_sum_by}
use Rattle.zero_one.specs.Rows.{fixed_bit}
use Rattle.bound_cert.specs.declared.leaves.Pair.{Pair}
use Rattle.bound_cert.specs.Leaves.{row_at, coef_of, least_of, sum_below, leaf_bound}
use Rattle.bound_cert.proofs.Scaled.{scale_zero}
use Rattle.bound_cert.proofs.Scratch.{below_same}
use Rattle.dual_ascent.specs.Short.{no_row, one_row}
use Rattle.dual_ascent.specs.Change.{entry_change, row_change}

-- a sum that changes at one number alone
below_change : (n v : ℕ) (f g : ℕ → ℤ) → v < n → ((i : ℕ) → i ≢ v → f i ≡ g i) → sum_below n f ≡ sum_below n g +ℤ (f v -ℤ g v)
below_change zero v f g inside same = absurd (omega arith)
below_change (suc n) v f g inside same =
    elim (cases_lt v n) [
      | inl lt ↦ omega (arith, ints, below_change n v f g lt same, same n (λ e. omega arith))
      | inr ge ↦
          let e : v ≡ n = omega arith in
          rw e (omega (arith, ints, below_same n f g (λ i h. same i (λ is. omega arith))))
    ]

tail_rises : (e : Entry) (es : List Entry) → IsStrictlyIncreasing (map (λ (f : Entry). f.var) (e ∷ es)) → IsStrictlyIncreasing (map (λ (f : Entry). f.var) es)
tail_rises e es rises = λ k h. simp add-one (simp add-one at (rises (suc k) (omega arith)))

-- the later variables are above the first
later_above : (e : Entry) (es : List Entry) → IsStrictlyIncreasing (map (λ (f : Entry). f.var) (e ∷ es)) → All (λ (f : Entry). e.var < f.var) es
later_above e [] rises = All-nil (λ (f : Entry). e.var < f.var)
later_above e (f ∷ es) rises =
    let up : e.var < f.var = (let first = rises 0 (omega arith) in omega arith) in
    All-cons (λ (g : Entry). e.var < g.var) f es up (All-weaker (λ (g : Entry). f.var < g.var) (λ (g : Entry). e.var < g.var) (λ g above. omega arith) es (later_above f es (tail_rises e (f ∷ es) rises)))

differ : (m n : ℕ) → n ≢ m → (m == n) ≡ false
differ m n h = grind (arith, nat_tests)

same_number : (m : ℕ) → (m == m) ≡ true
same_number m = grind (arith, nat_tests)

gated_out : (t : Bool) (c : ℤ) → t ≡ false → cond t c (pos 0) ≡ pos 0
gated_out true c e = absurd (cc)
gated_out false c e = refl

gated_in : (t : Bool) (c : ℤ) → t ≡ true → cond t c (pos 0) ≡ c
gated_in true c e = refl
gated_in false c e = absurd (cc)

-- a variable that no entry names has the coefficient 0
absent : (es : List Entry) (v : ℕ) → All (λ (f : Entry). v < f.var) es → coef_of es v ≡ pos 0
absent [] v above = refl
absent (f ∷ es) v above =
    let up : v < f.var = All-head (λ (g : Entry). v < g.var) f es above in
    omega (arith, ints, gated_out (f.var == v) f.coef (differ f.var v (λ e. omega arith)), absent es v (All-tail (λ (g : Entry). v < g.var) f es above))

coef_other : (e : Entry) (es : List Entry) (i : ℕ) → i ≢ e.var → coef_of (e ∷ es) i ≡ coef_of es i
coef_other e es i apart = omega (arith, ints, gated_out (e.var == i) e.coef (differ e.var i apart))

coef_here : (e : Entry) (es : List Entry) → All (λ (f : Entry). e.var < f.var) es → coef_of (e ∷ es) e.var ≡ e.coef
coef_here e es above = omega (arith, ints, gated_in (e.var == e.var) e.coef (same_number e.var), absent es e.var above)

-- a sum over all variables of what their coefficients give is that without the row, and what its entries change
by_entries : (n : ℕ) (es : List Entry) (h : ℕ → ℤ → ℤ) → IsStrictlyIncreasing (map (λ (e : Entry). e.var) es) → All (λ (e : Entry). e.var < n) es → sum_below n (λ i. h i (coef_of es i)) ≡ sum_below n (λ i. h i (pos 0)) +ℤ int_sum_by (λ (e : Entry). h e.var e.coef -ℤ h e.var (pos 0)) es
by_entries n [] h rises known = omega (arith, ints)
by_entries n (e ∷ es) h rises known =
    let above = later_above e es rises in
    let here : e.var < n = All-head (λ (f : Entry). f.var < n) e es known in
    let change = below_change n e.var (λ i. h i (coef_of (e ∷ es) i)) (λ i. h i (coef_of es i)) here (λ i apart. ap (h i) (coef_other e es i apart)) in
    let now : h e.var (coef_of (e ∷ es) e.var) ≡ h e.var e.coef = ap (h e.var) (coef_here e es above) in
    let before : h e.var (coef_of es e.var) ≡ h e.var (pos 0) = ap (h e.var) (absent es e.var above) in
    let rest = by_entries n es h (tail_rises e es rises) (All-tail (λ (f : Entry). f.var < n) e es known) in
    omega (arith, ints, change, now, before, rest)

sum_same : (f g : Entry → ℤ) → ((e : Entry) → f e ≡ g e) → (es : List Entry) → int_sum_by f es ≡ int_sum_by g es
sum_same f g same [] = refl
sum_same f g same (e ∷ es) = omega (arith, ints, same e, sum_same f g same es)

-- the bound of a leaf of one row
pub bound_with_row : (program : Contents) (fixed : List (Option Bool)) (s : ℕ) (pair : Pair) (row : Row) → row ≡ row_at program.rows pair.row → IsStrictlyIncreasing (map (λ (e : Entry). e.var) row.entries) → All (λ (e : Entry). e.var < length program.costs) row.entries → leaf_bound program fixed (one_row s pair) ≡ (leaf_bound program fixed (no_row s) +ℤ (pos pair.mult *ℤ row.bound)) +ℤ row_change row.entries program.costs fixed s pair.mult
bound_with_row program fixed s pair row is rises known =
    let n = length program.costs in
    let h : ℕ → ℤ → ℤ = λ i coef. least_of (fixed_bit fixed i) (pos (s * get_or program.costs i 0) -ℤ (pos pair.mult *ℤ coef)) in
    let bare : ℕ → ℤ = λ i. least_of (fixed_bit fixed i) (pos (s * get_or program.costs i 0)) in
    let none : (i : ℕ) → h i (pos 0) ≡ bare i = λ i. ap (least_of (fixed_bit fixed i)) (omega (arith, ints, scale_zero pair.mult)) in
    let sums = by_entries n row.entries h rises known in
    let without : sum_below n (λ i. h i (pos 0)) ≡ sum_below n (λ i. least_of (fixed_bit fixed i) (pos (s * get_or program.costs i 0) -ℤ pos 0)) =
    below_same n _ _ (λ i inside. none i ∙ ap (least_of (fixed_bit fixed i)) (omega (arith, ints))) in
    let taken : sum_below n (λ i. least_of (fixed_bit fixed i) (pos (s * get_or program.costs i 0) -ℤ ((pos pair.mult *ℤ coef_of row.entries i) +ℤ pos 0))) ≡ sum_below n (λ i. h i (coef_of row.entries i)) =
    below_same n _ _ (λ i inside. ap (least_of (fixed_bit fixed i)) (omega (arith, ints))) in
    let changes : int_sum_by (λ (e : Entry). h e.var e.coef -ℤ h e.var (pos 0)) row.entries ≡ row_change row.entries program.costs fixed s pair.mult =
    sum_same _ (entry_change program.costs fixed s pair.mult) (λ e. ap (λ z. h e.var e.coef -ℤ z) (none e.var)) row.entries in
    rw (← is) (omega (arith, ints, sums, without, taken, changes))
