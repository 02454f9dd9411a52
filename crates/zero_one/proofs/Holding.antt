use Rattle.std.proofs.Common.{◌≡◌, ℕ, zero, suc, ◌+◌, ◌<◌, ◌≤◌, ℤ, pos, ◌≤ℤ◌, Bool, true, false, cond, Option, Some, None, List, [], ◌∷◌, length, get_or, map, refl, ap, ◌∙◌, arith, add-suc, add-zero, add-one, zero-add}
use Rattle.std.specs.Prelude.{◌==◌, int_lt}
use Rattle.std.specs.List.{All}
use Rattle.std.specs.List.Sorted.{IsStrictlyIncreasing}
use Rattle.std.proofs.lemmas.Int.{ints, clamps}
use Rattle.std.proofs.lemmas.Bool.Decides.{nat_tests}
use Rattle.std.proofs.lemmas.List.Elements.{All-head, All-tail}
use Rattle.std.proofs.lemmas.List.{length-map}
use Rattle.zero_one.specs.declared.rows.Entry.{Entry}
use Rattle.zero_one.specs.declared.rows.Row.{Row}
use Rattle.zero_one.specs.Rows.{bit_of, fixed_bit, row_sum, most_of, greatest_sum, Agrees, CanHold, KnowsItsVars, HasRisingVars}

-- ---- no assignment that agrees with the fixed variables has a greater sum

most_at : (bit : Option Bool) (b : Bool) (coef : ℤ) → ((v : Bool) → bit ≡ Some v → b ≡ v) → cond b coef (pos 0) ≤ℤ most_of bit coef
most_at (Some true) true coef same = omega (arith, ints)
most_at (Some true) false coef same = absurd (let e = same true refl in cc)
most_at (Some false) true coef same = absurd (let e = same false refl in cc)
most_at (Some false) false coef same = omega (arith, ints)
most_at None true coef same = omega (arith, ints, clamps)
most_at None false coef same = omega (arith, ints, clamps)

sum_le_greatest : (entries : List Entry) (fixed : List (Option Bool)) (x : List Bool) → Agrees fixed x → row_sum entries x ≤ℤ greatest_sum entries fixed
sum_le_greatest [] fixed x agrees = omega (arith, ints)
sum_le_greatest (e ∷ es) fixed x agrees =
    omega (arith, ints, sum_le_greatest es fixed x agrees, most_at (fixed_bit fixed e.var) (bit_of x e.var) e.coef (agrees.same e.var))

-- ---- some assignment has the greatest sum: a free variable is 1 where its coefficient is above 0

wants : List Entry → ℕ → Bool
wants [] var = false
wants (e ∷ es) var = cond (e.var == var) (int_lt (pos 0) e.coef) (wants es var)

chosen : Option Bool → Bool → Bool
chosen (Some bit) wanted = bit
chosen None wanted = wanted

fill : List (Option Bool) → List Entry → ℕ → List Bool
fill [] es i = []
fill (bit ∷ fixed) es i = chosen bit (wants es i) ∷ fill fixed es (suc i)

length-fill : (fixed : List (Option Bool)) (es : List Entry) (i : ℕ) → length (fill fixed es i) ≡ length fixed
unfolding fill
length-fill [] es i = refl
length-fill (bit ∷ fixed) es i = ap suc (length-fill fixed es (suc i))

bit_of-fill : (fixed : List (Option Bool)) (es : List Entry) (i var : ℕ) → var < length fixed → bit_of (fill fixed es i) var ≡ chosen (fixed_bit fixed var) (wants es (i + var))
unfolding fill
bit_of-fill [] es i var h = absurd (omega arith)
bit_of-fill (bit ∷ fixed) es i zero h = rw add-zero refl
bit_of-fill (bit ∷ fixed) es i (suc var) h = rw (add-suc i var) (bit_of-fill fixed es (suc i) var (omega arith) ∙ ap (λ n. chosen (fixed_bit fixed var) (wants es n)) (omega arith))

-- the variables rise, from `low` on
SortedFrom : ℕ → List Entry → Type 0
SortedFrom low [] = Unit {0}
SortedFrom low (e ∷ es) = (low ≤ e.var) × SortedFrom (suc e.var) es

sorted_from : (low : ℕ) (es : List Entry) → IsStrictlyIncreasing (map (λ (e : Entry). e.var) es) → (0 < length es → low ≤ get_or (map (λ (e : Entry). e.var) es) 0 0) → SortedFrom low es
unfolding SortedFrom
sorted_from low [] rises first = tt
sorted_from low (e ∷ es) rises first = (
  first (omega arith),
  sorted_from (suc e.var) es
      (λ k h. simp add-one (simp add-one at (rises (suc k) (omega arith))))
      (λ h. let up = rises 0 (let n : length (map (λ (e : Entry). e.var) es) ≡ length es = length-map es (λ (e : Entry). e.var) in omega arith) in omega arith),
)

-- each entry of the list is wanted as its own coefficient says
WantsRight : List Entry → List Entry → Type 0
WantsRight all [] = Unit {0}
WantsRight all (e ∷ es) = (wants all e.var ≡ int_lt (pos 0) e.coef) × WantsRight all es

other : (m n : ℕ) → m < n → (m == n) ≡ false
other m n h = grind (arith, nat_tests)

same : (m : ℕ) → (m == m) ≡ true
same m = grind (arith, nat_tests)

wants_later : (e : Entry) (all es : List Entry) (low : ℕ) → e.var < low → SortedFrom low es → WantsRight all es → WantsRight (e ∷ all) es
unfolding SortedFrom WantsRight wants
wants_later e all [] low h sorted right = tt
wants_later e all (f ∷ es) low h sorted right = (
  let lt : e.var < f.var = (let at = sorted.0 in omega arith) in rw (other e.var f.var lt) right.0,
  wants_later e all es (suc f.var) (let at = sorted.0 in omega arith) sorted.1 right.1,
)

wants_right : (low : ℕ) (es : List Entry) → SortedFrom low es → WantsRight es es
unfolding SortedFrom WantsRight wants
wants_right low [] sorted = tt
wants_right low (e ∷ es) sorted =
    (rw (same e.var) refl, wants_later e es es (suc e.var) (omega arith) sorted.1 (wants_right (suc e.var) es sorted.1))

part_is : (bit : Option Bool) (coef : ℤ) → cond (chosen bit (int_lt (pos 0) coef)) coef (pos 0) ≡ most_of bit coef
unfolding chosen
part_is (Some true) coef = refl
part_is (Some false) coef = refl
part_is None coef = refl

filled_sum : (all es : List Entry) (fixed : List (Option Bool)) → All (λ (e : Entry). e.var < length fixed) es → WantsRight all es → row_sum es (fill fixed all 0) ≡ greatest_sum es fixed
unfolding WantsRight
filled_sum all [] fixed known right = refl
filled_sum all (e ∷ es) fixed known right =
    let here : e.var < length fixed = All-head (λ (e : Entry). e.var < length fixed) e es known in
    let bit = rw (zero-add e.var, right.0) at (bit_of-fill fixed all 0 e.var here) in
    rw (bit, part_is (fixed_bit fixed e.var) e.coef, filled_sum all es fixed (All-tail (λ (e : Entry). e.var < length fixed) e es known) right.1) refl

pub fixed_inside : (fixed : List (Option Bool)) (var : ℕ) (bit : Bool) → fixed_bit fixed var ≡ Some bit → var < length fixed
fixed_inside [] var bit e = absurd (cc)
fixed_inside (b ∷ fixed) zero bit e = omega arith
fixed_inside (b ∷ fixed) (suc var) bit e = omega (arith, fixed_inside fixed var bit e)

fill_agrees : (fixed : List (Option Bool)) (es : List Entry) → Agrees fixed (fill fixed es 0)
unfolding chosen
fill_agrees fixed es = record { bits = length-fill fixed es 0; same = λ var bit e. rw e at (bit_of-fill fixed es 0 var (fixed_inside fixed var bit e)) }

-- a row can hold exactly where its greatest sum is at least its bound
pub can_hold : (fixed : List (Option Bool)) (row : Row) → KnowsItsVars (length fixed) row → HasRisingVars row → row.bound ≤ℤ greatest_sum row.entries fixed → CanHold fixed row
can_hold fixed row known rising enough =
    record {
      assignment = fill fixed row.entries 0;
      agrees = fill_agrees fixed row.entries;
      met = rw (filled_sum row.entries row.entries fixed known (wants_right 0 row.entries (sorted_from 0 row.entries rising (λ _. omega arith)))) enough;
    }

pub holds_enough : (fixed : List (Option Bool)) (row : Row) → CanHold fixed row → row.bound ≤ℤ greatest_sum row.entries fixed
holds_enough fixed row can = omega (arith, ints, can.met, sum_le_greatest row.entries fixed can.assignment can.agrees)
