-- The program of every set of a world keeps the limits of programs.
use Rattle.std.proofs.Common.{◌≡◌, ℕ, zero, suc, ◌+◌, ◌^◌, ◌<◌, ◌≤◌, ◌⊎◌, inl, inr, Bool, true, false, List, [], ◌∷◌, length, map, refl, sym, subst, ◌∙◌, arith, take, slice_index, nat_lt}
use Rattle.std.specs.Prelude.{All}
use Rattle.std.specs.List.Sorted.{IsStrictlyIncreasing}
use Rattle.std.proofs.lemmas.Bool.{ltb-true, lt-ltb}
use Rattle.std.proofs.lemmas.List.Elements.{All-nil, All-cons, All-head, All-tail}
use Rattle.span_base.specs.declared.words.What.TheVariants.{Variables, Rows, Weight}
use Rattle.zero_one.specs.declared.rows.Entry.{Entry}
use Rattle.zero_one.specs.declared.rows.Row.{Row}
use Rattle.zero_one.specs.declared.programs.ProgramFault.{ProgramFault}
use Rattle.zero_one.specs.declared.programs.ProgramFault.TheVariants.{NoSuchVar, Unsorted, Limit}
use Rattle.zero_one.specs.Rows.{KnowsItsVars, HasRisingVars, weight_of}
use Rattle.zero_one.specs.Program.{IsWithinLimits}
use Rattle.zero_one.specs.Faults.{IsFirstBreach, HasFault}
use Rattle.workload.specs.World.{Lists, rule_of}
use Rattle.workload.specs.declared.rules.Mode.{Mode}
use Rattle.workload.specs.declared.rules.Mode.TheVariants.{Direct, Relay, Strong}
use Rattle.placement_relay.specs.Programs as relay
use Rattle.placement_relay.specs.Laws.{IsEventualSet}
use Rattle.placement_relay.proofs.CostLimits as relay_costs
use Rattle.placement_relay.proofs.Limits as relay_limits
use Rattle.placement_strong.specs.Programs as strong
use Rattle.placement_strong.specs.Laws.{IsStrongSet}
use Rattle.placement_strong.proofs.SmallCosts as strong_costs
use Rattle.placement_strong.proofs.Limits as strong_limits
use Rattle.placement.specs.Placement.{IsSet, program_by, program_of}

lower : (a b : ℕ) → (a < b) ⊎ (b ≤ a)
lower a b = by (nat_lt a b) refl
  where
    by : (t : Bool) → nat_lt a b ≡ t → (a < b) ⊎ (b ≤ a)
    by true e = inl (ltb-true a b e)
    by false e =
        let not : ¬ (a < b) = λ h. let t : nat_lt a b ≡ true = lt-ltb a b h in let f : false ≡ true = sym e ∙ t in cc in
        inr (omega (arith, not))

-- a fact that can be tested holds of each item, or not
each_or_not : {X : Type 0} (P : X → Type 0) → ((x : X) → P x ⊎ ¬ P x) → (xs : List X) → All P xs ⊎ ¬ All P xs
each_or_not P test [] = inl (All-nil P)
each_or_not {X} P test (x ∷ xs) = by (test x) (each_or_not P test xs)
  where
    by : P x ⊎ ¬ P x → All P xs ⊎ ¬ All P xs → All P (x ∷ xs) ⊎ ¬ All P (x ∷ xs)
    by (inl here) (inl rest) = inl (All-cons P x xs here rest)
    by (inl here) (inr none) = inr (λ all. none (All-tail P x xs all))
    by (inr none) rest = inr (λ all. none (All-head P x xs all))

rising_or_not : (xs : List ℕ) → IsStrictlyIncreasing xs ⊎ ¬ IsStrictlyIncreasing xs
rising_or_not [] = inl (λ k inside. absurd (omega (arith, inside)))
rising_or_not (x ∷ []) = inl (λ k inside. absurd (omega (arith, inside)))
rising_or_not (x ∷ y ∷ xs) = by (lower x y) (rising_or_not (y ∷ xs))
  where
    next : (k : ℕ) → suc (k + 1) ≡ suc k + 1
    next k = omega arith

    both : x < y → IsStrictlyIncreasing (y ∷ xs) → (k : ℕ) → k + 1 < length (x ∷ y ∷ xs) → slice_index (x ∷ y ∷ xs) k < slice_index (x ∷ y ∷ xs) (k + 1)
    both up rest zero inside = up
    both up rest (suc k) inside = subst (λ (n : ℕ). slice_index (y ∷ xs) k < slice_index (x ∷ y ∷ xs) n) (next k) (rest k (omega (arith, inside)))

    tail : IsStrictlyIncreasing (x ∷ y ∷ xs) → IsStrictlyIncreasing (y ∷ xs)
    tail all k inside = subst (λ (n : ℕ). slice_index (y ∷ xs) k < slice_index (x ∷ y ∷ xs) n) (sym (next k)) (all (suc k) (omega (arith, inside)))

    by : (x < y) ⊎ (y ≤ x) → IsStrictlyIncreasing (y ∷ xs) ⊎ ¬ IsStrictlyIncreasing (y ∷ xs) → IsStrictlyIncreasing (x ∷ y ∷ xs) ⊎ ¬ IsStrictlyIncreasing (x ∷ y ∷ xs)
    by (inl up) (inl rest) = inl (both up rest)
    by (inl up) (inr none) = inr (λ all. none (tail all))
    by (inr down) rest = inr (λ all. let up : x < y = all 0 (omega arith) in omega (arith, up, down))

-- or some item is the first of which it doesn't
each_or_first : (P : Row → Type 0) → ((row : Row) → P row ⊎ ¬ P row) → (rows : List Row) → All P rows ⊎ ((at : ℕ) × IsFirstBreach P rows at)
each_or_first P test [] = inl (All-nil P)
each_or_first P test (row ∷ rows) = by (test row) (each_or_first P test rows)
  where
    by : P row ⊎ ¬ P row → All P rows ⊎ ((at : ℕ) × IsFirstBreach P rows at) → All P (row ∷ rows) ⊎ ((at : ℕ) × IsFirstBreach P (row ∷ rows) at)
    by (inl here) (inl rest) = inl (All-cons P row rows here rest)
    by (inl here) (inr (at, breach)) = inr (suc at, record { before = All-cons P row (take at rows) here breach.before; broken = breach.broken })
    by (inr none) rest = inr (0, record { before = All-nil P; broken = (row, refl, none) })

-- costs and rows without a fault are within the limits
module _ (costs : List ℕ) (rows : List Row) (none : (fault : ProgramFault) → HasFault costs rows fault → ⊥) where
  known_vars : (row : Row) → KnowsItsVars (length costs) row ⊎ ¬ KnowsItsVars (length costs) row
  known_vars row = each_or_not (λ (entry : Entry). entry.var < length costs) known_var row.entries
    where
      known_var : (entry : Entry) → (entry.var < length costs) ⊎ ¬ (entry.var < length costs)
      known_var entry = elim (lower entry.var (length costs)) [ inl low ↦ inl low | inr high ↦ inr (λ low. omega (arith, low, high)) ]

  known : All (KnowsItsVars (length costs)) rows
  known = elim (each_or_first (KnowsItsVars (length costs)) known_vars rows) [ inl all ↦ all | inr first ↦ absurd (none (NoSuchVar first.0) first.1) ]

  rising : All HasRisingVars rows
  rising = elim (each_or_first HasRisingVars (λ row. rising_or_not (map (λ (entry : Entry). entry.var) row.entries)) rows) [ inl all ↦ all | inr first ↦ absurd (none (Unsorted first.0) (known, first.1)) ]

  few_variables : length costs ≤ 4096
  few_variables = elim (lower 4096 (length costs)) [ inl many ↦ absurd (none (Limit Variables (length costs)) (known, rising, inl (refl, refl, many))) | inr few ↦ few ]

  few_rows : length rows ≤ 16384
  few_rows = elim (lower 16384 (length rows)) [ inl many ↦ absurd (none (Limit Rows (length rows)) (known, rising, inr (inl (refl, refl, few_variables, many)))) | inr few ↦ few ]

  light : weight_of rows ≤ 10 ^ 7
  light = elim (lower (10 ^ 7) (weight_of rows)) [ inl heavy ↦ absurd (none (Limit Weight (weight_of rows)) (known, rising, inr (inr (refl, refl, few_variables, few_rows, heavy)))) | inr few ↦ few ]

  within : All (λ cost. cost < 10 ^ 24) costs → IsWithinLimits (record { costs = costs; rows = rows })
  within small = record { costs = small; known = known; rising = rising; variables = few_variables; row_count = few_rows; weight = light }

relay_within : (w : Lists) (set : ℕ) → IsEventualSet w set → IsWithinLimits (relay.set_program w set)
unfolding relay.set_program
relay_within w set s = within (relay.set_costs w set) (relay.set_rows w set) (relay_limits.no_fault w set s _ _ refl refl) (relay_costs.set_costs_small w set s)

strong_within : (w : Lists) (set : ℕ) → IsStrongSet w set → IsWithinLimits (strong.set_program w set)
unfolding strong.set_program
strong_within w set s = within (strong.set_costs w set) (strong.set_rows w set) (strong_limits.no_fault w set s _ _ refl refl) (strong_costs.set_costs_small w set s)

by_mode : (m : Mode) (w : Lists) (set : ℕ) → (rule_of w set).mode ≡ m → IsSet w set → IsWithinLimits (program_by m w set)
by_mode Direct w set is s = relay_within w set (record { complete = s.complete; named = s.named; there = s.there; mode = λ strong. let e : Direct ≡ Strong = sym is ∙ strong in cc })
by_mode Relay w set is s = relay_within w set (record { complete = s.complete; named = s.named; there = s.there; mode = λ strong. let e : Relay ≡ Strong = sym is ∙ strong in cc })
by_mode Strong w set is s = strong_within w set (record { complete = s.complete; there = s.there; mode = is })

pub set_within : (w : Lists) (set : ℕ) → IsSet w set → IsWithinLimits (program_of w set)
set_within w set s = by_mode (rule_of w set).mode w set refl s
