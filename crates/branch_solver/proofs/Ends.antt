-- Where no short leaf closes, each row can hold; and a path that leaves no variable free is closed by a short leaf.
use Rattle.std.proofs.Common.{◌≡◌, ℕ, zero, suc, ◌+◌, ◌^◌, ◌<◌, ◌≤◌, inl, inr, ℤ, pos, ◌+ℤ◌, ◌-ℤ◌, ◌<ℤ◌, Bool, true, false, Option, Some, None, List, [], ◌∷◌, length, map, refl, sym, ap, ◌∙◌, arith, add-zero, add-suc, zero-add}
use Rattle.std.specs.Prelude.{int_lt}
use Rattle.std.specs.List.{All}
use Rattle.std.proofs.lemmas.Int.{ints, clamps, by_lt_z}
use Rattle.std.proofs.lemmas.List.{length-map}
use Rattle.std.proofs.lemmas.List.Elements.{All-from_get_or}
use Rattle.zero_one.specs.declared.rows.Entry.{Entry}
use Rattle.zero_one.specs.Contents.{Contents}
use Rattle.zero_one.specs.Rows.{bit_of, fixed_bit, row_sum, Meets, Agrees, CanHold}
use Rattle.zero_one.specs.Program.{IsWithinLimits, value_of}
use Rattle.zero_one.proofs.Holding.{fixed_inside}
use Rattle.bound_cert.specs.declared.leaves.Goal.{Goal}
use Rattle.bound_cert.specs.declared.leaves.Pair.{Pair}
use Rattle.bound_cert.specs.declared.leaves.Leaf.{Leaf}
use Rattle.bound_cert.specs.Leaves.{leaf_bound, row_at, coef_of, reduced_cost, least_of, bound_part}
use Rattle.bound_cert.specs.Closing.{IsShort}
use Rattle.bound_cert.specs.Trees.{IsFree}
use Rattle.bound_cert.proofs.Below.{below_same}
use Rattle.bound_cert.proofs.Duality.{leaf_bound_whole}
use Rattle.cert_checker.proofs.Places.{int_lt_true, int_lt_false}
use Rattle.dual_ascent.specs.Short.{NoShortEnds, EndsPath, no_row, one_row}
use Rattle.branch_solver.specs.Best.{Best, IsAtMost, goal_of}
use Rattle.branch_solver.specs.Nodes.{is_one, IsAnswered}

-- ---- the short leaves in question

abbrev row_leaf : ℕ → Leaf
row_leaf row = one_row 0 (record { row = row; mult = 1 })

once : {X : Type 0} (P : X → Type 0) (x : X) → P x → All P (x ∷ [])
once P x holds zero d below = holds
once P x holds (suc k) d below = absurd (omega arith)

row_leaf_short : (program : Contents) (row : ℕ) → row < length program.rows → IsShort program (row_leaf row)
row_leaf_short program row there = record {
  fits = record {
    scale = omega arith;
    multipliers = once (λ (p : Pair). (1 ≤ p.mult) × (p.mult ≤ 10 ^ 30)) (record { row = row; mult = 1 }) (omega arith, omega arith);
    rising = λ k below. absurd (omega arith);
    existing = once (λ (p : Pair). p.row < length program.rows) (record { row = row; mult = 1 }) there;
  };
  form = refl;
}

costs_short : (program : Contents) → IsShort program (no_row 1)
costs_short program = record {
  fits = record {
    scale = omega arith;
    multipliers = λ k d below. absurd (omega arith);
    rising = λ k below. absurd (omega arith);
    existing = λ k d below. absurd (omega arith);
  };
  form = tt;
}

-- ---- the bound of a row's leaf, where each variable takes the bit that makes it least

picked : Option Bool → ℤ → Bool
picked (Some bit) coef = bit
picked None coef = int_lt (pos 0) coef

pick : (ℕ → ℤ) → List (Option Bool) → ℕ → List Bool
pick coefs [] at = []
pick coefs (bit ∷ fixed) at = picked bit (coefs at) ∷ pick coefs fixed (suc at)

length-pick : (coefs : ℕ → ℤ) (fixed : List (Option Bool)) (at : ℕ) → length (pick coefs fixed at) ≡ length fixed
unfolding pick
length-pick coefs [] at = refl
length-pick coefs (bit ∷ fixed) at = ap suc (length-pick coefs fixed (suc at))

bit_of-pick : (coefs : ℕ → ℤ) (fixed : List (Option Bool)) (at var : ℕ) → var < length fixed → bit_of (pick coefs fixed at) var ≡ picked (fixed_bit fixed var) (coefs (at + var))
unfolding pick
bit_of-pick coefs [] at var inside = absurd (omega arith)
bit_of-pick coefs (bit ∷ fixed) at zero inside = rw add-zero refl
bit_of-pick coefs (bit ∷ fixed) at (suc var) inside = rw (add-suc at var) (bit_of-pick coefs fixed (suc at) var (omega arith) ∙ ap (λ n. picked (fixed_bit fixed var) (coefs n)) (omega arith))

pick_agrees : (coefs : ℕ → ℤ) (fixed : List (Option Bool)) → Agrees fixed (pick coefs fixed 0)
unfolding picked
pick_agrees coefs fixed = record {
  bits = length-pick coefs fixed 0;
  same = λ var bit e. rw e at (bit_of-pick coefs fixed 0 var (fixed_inside fixed var bit e));
}

-- the bits of an assignment, all fixed
fixed_whole : (x : List Bool) (var : ℕ) → var < length x → fixed_bit (map Some x) var ≡ Some (bit_of x var)
fixed_whole [] var inside = absurd (omega arith)
fixed_whole (b ∷ x) zero inside = refl
fixed_whole (b ∷ x) (suc var) inside = fixed_whole x var (omega arith)

least_picked : (bit : Option Bool) (coef rest : ℤ) → rest ≡ pos 0 -ℤ coef → least_of bit rest ≡ least_of (Some (picked bit coef)) rest
unfolding picked
least_picked (Some true) coef rest is = refl
least_picked (Some false) coef rest is = refl
least_picked None coef rest is = by_sign (int_lt (pos 0) coef) refl
  where
    by_sign : (test : Bool) → int_lt (pos 0) coef ≡ test → least_of None rest ≡ least_of (Some (int_lt (pos 0) coef)) rest
    by_sign true above = rw above (omega (arith, ints, clamps, is, int_lt_true (pos 0) coef above))
    by_sign false above = rw above (omega (arith, ints, clamps, is, int_lt_false (pos 0) coef above))

-- the assignment that makes the row's sum greatest
greatest : List Entry → List (Option Bool) → List Bool
greatest entries fixed = pick (coef_of entries) fixed 0

row_bound : (program : Contents) → IsWithinLimits program → (fixed : List (Option Bool)) (row : ℕ) → length fixed ≡ length program.costs → leaf_bound program fixed (row_leaf row) ≡ (row_at program.rows row).bound -ℤ row_sum (row_at program.rows row).entries (greatest (row_at program.rows row).entries fixed)
unfolding greatest
row_bound program limits fixed row vars =
    let entries : List Entry = (row_at program.rows row).entries in
    let x : List Bool = pick (coef_of entries) fixed 0 in
    let rest : ℕ → ℤ = reduced_cost program (row_leaf row) in
    let bits : length x ≡ length program.costs = length-pick (coef_of entries) fixed 0 ∙ vars in
    let parts = below_same (length program.costs) (λ var. least_of (fixed_bit fixed var) (rest var)) (λ var. least_of (fixed_bit (map Some x) var) (rest var)) (λ var inside.
    let here : var < length fixed = omega (arith, inside, vars) in
    let left : rest var ≡ pos 0 -ℤ coef_of entries var = omega (arith, ints) in
    let bit : bit_of x var ≡ picked (fixed_bit fixed var) (coef_of entries var) = rw (zero-add var) at (bit_of-pick (coef_of entries) fixed 0 var here) in
    least_picked (fixed_bit fixed var) (coef_of entries var) (rest var) left
    ∙ sym (ap (λ b. least_of b (rest var)) (fixed_whole x var (omega (arith, inside, bits)) ∙ ap Some bit))) in
    let same : leaf_bound program fixed (row_leaf row) ≡ leaf_bound program (map Some x) (row_leaf row) = ap (λ z. bound_part program.rows (row_leaf row).pairs +ℤ z) parts in
    let whole = leaf_bound_whole program limits (map Some x) (row_leaf row) x bits (λ var inside. fixed_whole x var (omega (arith, inside, bits))) in
    omega (arith, ints, same, whole)

row_holds : (program : Contents) → IsWithinLimits program → (fixed : List (Option Bool)) (row : ℕ) → length fixed ≡ length program.costs → ¬ (pos 0 <ℤ leaf_bound program fixed (row_leaf row)) → CanHold fixed (row_at program.rows row)
unfolding greatest
row_holds program limits fixed row vars low = record {
  assignment = greatest (row_at program.rows row).entries fixed;
  agrees = pick_agrees (coef_of (row_at program.rows row).entries) fixed;
  met = by_lt_z (row_sum (row_at program.rows row).entries (greatest (row_at program.rows row).entries fixed)) (row_at program.rows row).bound
      (λ below. absurd (low (omega (arith, ints, row_bound program limits fixed row vars, below))))
      (λ enough. enough);
}

-- where no short leaf closes, each row can hold
pub rows_hold : (program : Contents) → IsWithinLimits program → (fixed : List (Option Bool)) (goal : Goal) → length fixed ≡ length program.costs → NoShortEnds program fixed goal → All (CanHold fixed) program.rows
rows_hold program limits fixed goal vars none =
    All-from_get_or (CanHold fixed) program.rows (record { entries = []; bound = pos 0 }) (λ row there.
    row_holds program limits fixed row vars (none (row_leaf row) (row_leaf_short program row there)))

-- ---- a path that leaves no variable free

bits_fixed : (fixed : List (Option Bool)) → ((var : ℕ) → ¬ IsFree fixed var) → (var : ℕ) → var < length fixed → fixed_bit fixed var ≡ Some (bit_of (map is_one fixed) var)
bits_fixed [] none var inside = absurd (omega arith)
bits_fixed (None ∷ fixed) none var inside = absurd (none 0 refl)
bits_fixed (Some bit ∷ fixed) none zero inside = refl
bits_fixed (Some bit ∷ fixed) none (suc var) inside = bits_fixed fixed (λ v free. none (suc v) free) var (omega arith)

row_closes : (program : Contents) → IsWithinLimits program → (fixed : List (Option Bool)) (x : List Bool) (row : ℕ) → length x ≡ length program.costs → ((var : ℕ) → var < length program.costs → fixed_bit fixed var ≡ Some (bit_of x var)) → ¬ Meets x (row_at program.rows row) → pos 0 <ℤ leaf_bound program fixed (row_leaf row)
row_closes program limits fixed x row bits whole broken =
    let bound = leaf_bound_whole program limits fixed (row_leaf row) x bits whole in
    by_lt_z (row_sum (row_at program.rows row).entries x) (row_at program.rows row).bound
    (λ below. omega (arith, ints, bound, below))
    (λ enough. absurd (broken enough))

costs_close : (program : Contents) → IsWithinLimits program → (fixed : List (Option Bool)) (x : List Bool) (best : Option Best) → length x ≡ length program.costs → ((var : ℕ) → var < length program.costs → fixed_bit fixed var ≡ Some (bit_of x var)) → IsAtMost best (value_of program.costs x) → EndsPath program fixed (goal_of best) (no_row 1)
costs_close program limits fixed x None bits whole most = absurd most
costs_close program limits fixed x (Some best) bits whole most =
    let bound = leaf_bound_whole program limits fixed (no_row 1) x bits whole in
    omega (arith, ints, bound, most)

pub whole_closes : (program : Contents) → IsWithinLimits program → (fixed : List (Option Bool)) (best : Option Best) → length fixed ≡ length program.costs → ((var : ℕ) → ¬ IsFree fixed var) → IsAnswered program (map is_one fixed) best → NoShortEnds program fixed (goal_of best) → ⊥
whole_closes program limits fixed best vars none answered short =
    let x : List Bool = map is_one fixed in
    let bits : length (map is_one fixed) ≡ length program.costs = length-map fixed is_one ∙ vars in
    let whole = λ (var : ℕ) (inside : var < length program.costs). bits_fixed fixed none var (omega (arith, inside, vars)) in
    elim answered [
      | inl breach ↦
          short (row_leaf breach.0) (row_leaf_short program breach.0 breach.1) (row_closes program limits fixed (map is_one fixed) breach.0 bits whole breach.2)
      | inr met ↦
          short (no_row 1) (costs_short program) (costs_close program limits fixed (map is_one fixed) best bits whole met.1)
    ]
