-- The bound of a leaf is below what every assignment on its path costs.
use Rattle.std.proofs.Common.{◌≡◌, ℕ, zero, suc, ◌+◌, ◌*◌, ◌<◌, ◌≤◌, ℤ, pos, ◌+ℤ◌, ◌-ℤ◌, ◌*ℤ◌, ◌≤ℤ◌, Bool, true, false, cond, Option, Some, None, List, [], ◌∷◌, length, get_or, take, refl, ap, arith}
use Rattle.std.specs.Prelude.{◌==◌}
use Rattle.std.specs.List.{All}
use Rattle.std.proofs.lemmas.Int.{ints, clamps}
use Rattle.std.proofs.lemmas.List.{take_all}
use Rattle.std.proofs.lemmas.List.Elements.{All-head, All-tail}
use Rattle.zero_one.specs.declared.rows.Entry.{Entry}
use Rattle.zero_one.specs.declared.rows.Row.{Row}
use Rattle.zero_one.specs.Contents.{Contents}
use Rattle.zero_one.specs.Sums.{int_sum_by}
use Rattle.zero_one.specs.Rows.{bit_of, fixed_bit, row_sum, Meets, Agrees, KnowsItsVars}
use Rattle.zero_one.specs.Program.{value_of, IsFeasible, IsWithinLimits}
use Rattle.bound_cert.specs.declared.leaves.Pair.{Pair}
use Rattle.bound_cert.specs.declared.leaves.Leaf.{Leaf}
use Rattle.bound_cert.specs.Leaves.{row_at, coef_of, bound_part, column_part, reduced_cost, least_of, sum_below, leaf_bound}
use Rattle.bound_cert.proofs.Scaled.{scale_mono}
use Rattle.bound_cert.proofs.Below.{gated, below_le, below_same, below_add, below_sub, below_scale, below_none, below_single}

no_row : Row
no_row = record { entries = []; bound = pos 0 }

-- the sum of a row, variable by variable
row_by_vars : (n : ℕ) (x : List Bool) (es : List Entry) → All (λ (e : Entry). e.var < n) es → sum_below n (gated (bit_of x) (coef_of es)) ≡ row_sum es x
row_by_vars n x [] known = below_none n (bit_of x)
row_by_vars n x (e ∷ es) known =
    omega (
      arith,
      ints,
      below_add n (bit_of x) (λ i. cond (e.var == i) e.coef (pos 0)) (coef_of es),
      below_single n (bit_of x) e.var e.coef (All-head (λ (f : Entry). f.var < n) e es known),
      row_by_vars n x es (All-tail (λ (f : Entry). f.var < n) e es known),
    )

-- what the pairs' rows sum up to, each taken by its multiplier
pairs_sum : List Row → List Bool → List Pair → ℤ
pairs_sum rows x pairs = int_sum_by (λ (p : Pair). pos p.mult *ℤ row_sum (row_at rows p.row).entries x) pairs

row_at_known : (n : ℕ) (rows : List Row) (r : ℕ) → All (KnowsItsVars n) rows → KnowsItsVars n (row_at rows r)
row_at_known n [] r known = λ k d h. absurd (omega arith)
row_at_known n (row ∷ rows) zero known = All-head (KnowsItsVars n) row rows known
row_at_known n (row ∷ rows) (suc r) known = row_at_known n rows r (All-tail (KnowsItsVars n) row rows known)

row_at_met : (x : List Bool) (rows : List Row) (r : ℕ) → All (Meets x) rows → Meets x (row_at rows r)
row_at_met x [] r met = omega (arith, ints)
row_at_met x (row ∷ rows) zero met = All-head (Meets x) row rows met
row_at_met x (row ∷ rows) (suc r) met = row_at_met x rows r (All-tail (Meets x) row rows met)

pairs_by_vars : (n : ℕ) (rows : List Row) (x : List Bool) (pairs : List Pair) → All (KnowsItsVars n) rows → sum_below n (gated (bit_of x) (column_part rows pairs)) ≡ pairs_sum rows x pairs
unfolding pairs_sum
pairs_by_vars n rows x [] known = below_none n (bit_of x)
pairs_by_vars n rows x (p ∷ pairs) known =
    omega (
      arith,
      ints,
      below_add n (bit_of x) (λ i. pos p.mult *ℤ coef_of (row_at rows p.row).entries i) (column_part rows pairs),
      below_scale n (bit_of x) p.mult (coef_of (row_at rows p.row).entries),
      ap (λ z. pos p.mult *ℤ z) (row_by_vars n x (row_at rows p.row).entries (row_at_known n rows p.row known)),
      pairs_by_vars n rows x pairs known,
    )

bound_le_pairs : (rows : List Row) (x : List Bool) (pairs : List Pair) → All (Meets x) rows → bound_part rows pairs ≤ℤ pairs_sum rows x pairs
unfolding pairs_sum
bound_le_pairs rows x [] met = omega (arith, ints)
bound_le_pairs rows x (p ∷ pairs) met =
    omega (arith, ints, scale_mono p.mult (row_at rows p.row).bound (row_sum (row_at rows p.row).entries x) (row_at_met x rows p.row met), bound_le_pairs rows x pairs met)

value_of_suc : (costs : List ℕ) (x : List Bool) (i : ℕ) → i < length costs → length x ≡ length costs → value_of (take (suc i) costs) (take (suc i) x) ≡ value_of (take i costs) (take i x) + cond (bit_of x i) (get_or costs i 0) 0
value_of_suc [] x i h e = absurd (omega arith)
value_of_suc (cost ∷ costs) [] i h e = absurd (omega arith)
value_of_suc (cost ∷ costs) (true ∷ x) zero h e = omega arith
value_of_suc (cost ∷ costs) (false ∷ x) zero h e = omega arith
value_of_suc (cost ∷ costs) (true ∷ x) (suc i) h e = omega (arith, value_of_suc costs x i (omega arith) (omega arith))
value_of_suc (cost ∷ costs) (false ∷ x) (suc i) h e = value_of_suc costs x i (omega arith) (omega arith)

scaled_step : (s v cost : ℕ) (b : Bool) (v' : ℕ) → v' ≡ v + cond b cost 0 → pos (s * v) +ℤ cond b (pos (s * cost)) (pos 0) ≡ pos (s * v')
scaled_step s v cost true v' e = rw e (omega (arith, ints))
scaled_step s v cost false v' e = rw e (omega (arith, ints))

value_by_vars : (s : ℕ) (costs : List ℕ) (x : List Bool) (n : ℕ) → n ≤ length costs → length x ≡ length costs → sum_below n (gated (bit_of x) (λ i. pos (s * get_or costs i 0))) ≡ pos (s * value_of (take n costs) (take n x))
value_by_vars s costs x zero h e = ap pos (omega arith)
value_by_vars s costs x (suc n) h e =
    rw (value_by_vars s costs x n (omega arith) e) (scaled_step s (value_of (take n costs) (take n x)) (get_or costs n 0) (bit_of x n) (value_of (take (suc n) costs) (take (suc n) x)) (value_of_suc costs x n (omega arith) e))

least_at : (bit : Option Bool) (b : Bool) (r : ℤ) → ((v : Bool) → bit ≡ Some v → b ≡ v) → least_of bit r ≤ℤ cond b r (pos 0)
least_at (Some true) true r same = omega (arith, ints)
least_at (Some true) false r same = absurd (let e = same true refl in cc)
least_at (Some false) true r same = absurd (let e = same false refl in cc)
least_at (Some false) false r same = omega (arith, ints)
least_at None true r same = omega (arith, ints, clamps)
least_at None false r same = omega (arith, ints, clamps)

-- the law of the leaf
pub leaf_bound_le : (program : Contents) → IsWithinLimits program → (fixed : List (Option Bool)) (leaf : Leaf) (x : List Bool) → IsFeasible program x → Agrees fixed x → leaf_bound program fixed leaf ≤ℤ pos (leaf.s * value_of program.costs x)
leaf_bound_le program limits fixed leaf x feasible agrees =
    let n = length program.costs in
    let costs = value_by_vars leaf.s program.costs x n (omega arith) feasible.bits in
    let all_costs = take_all n program.costs (omega arith) in
    let all_x = take_all n x (let e = feasible.bits in omega arith) in
    let costs' = rw (all_costs, all_x) at costs in
    let least = below_le n (λ var. least_of (fixed_bit fixed var) (reduced_cost program leaf var)) (gated (bit_of x) (reduced_cost program leaf))
    (λ var. least_at (fixed_bit fixed var) (bit_of x var) (reduced_cost program leaf var) (agrees.same var)) in
    omega (
      arith,
      ints,
      costs',
      least,
      below_sub n (bit_of x) (λ i. pos (leaf.s * get_or program.costs i 0)) (column_part program.rows leaf.pairs),
      pairs_by_vars n program.rows x leaf.pairs limits.known,
      bound_le_pairs program.rows x leaf.pairs feasible.met,
    )

-- the bound of a leaf where every variable is fixed: what its rows ask for, and what the assignment costs less what it gives them
pub leaf_bound_whole : (program : Contents) → IsWithinLimits program → (fixed : List (Option Bool)) (leaf : Leaf) (x : List Bool) → length x ≡ length program.costs → ((var : ℕ) → var < length program.costs → fixed_bit fixed var ≡ Some (bit_of x var)) → leaf_bound program fixed leaf ≡ bound_part program.rows leaf.pairs +ℤ (pos (leaf.s * value_of program.costs x) -ℤ int_sum_by (λ (p : Pair). pos p.mult *ℤ row_sum (row_at program.rows p.row).entries x) leaf.pairs)
unfolding pairs_sum
leaf_bound_whole program limits fixed leaf x bits whole =
    let n = length program.costs in
    let costs = value_by_vars leaf.s program.costs x n (omega arith) bits in
    let all_costs = take_all n program.costs (omega arith) in
    let all_x = take_all n x (omega (arith, bits)) in
    let costs' = rw (all_costs, all_x) at costs in
    let parts = below_same n (λ var. least_of (fixed_bit fixed var) (reduced_cost program leaf var)) (gated (bit_of x) (reduced_cost program leaf))
    (λ var inside. least_fixed (fixed_bit fixed var) (bit_of x var) (reduced_cost program leaf var) (whole var inside)) in
    omega (
      arith,
      ints,
      costs',
      parts,
      below_sub n (bit_of x) (λ i. pos (leaf.s * get_or program.costs i 0)) (column_part program.rows leaf.pairs),
      pairs_by_vars n program.rows x leaf.pairs limits.known,
    )
  where
    least_fixed : (bit : Option Bool) (b : Bool) (r : ℤ) → bit ≡ Some b → least_of bit r ≡ cond b r (pos 0)
    least_fixed bit true r is = rw is refl
    least_fixed bit false r is = rw is refl
