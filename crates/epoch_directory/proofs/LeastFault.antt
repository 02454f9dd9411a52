-- The least set at which something is wrong with a table.
use Rattle.std.proofs.Common.{◌≡◌, ◌≢◌, ℕ, zero, suc, ◌+◌, ◌<◌, ◌≤◌, ◌⊎◌, inl, inr, cond, Option, Some, None, get_or, length, refl, sym, ap, ◌∙◌, arith}
use Rattle.std.specs.Prelude.{List, is_some}
use Rattle.std.specs.List.{find, range_with_len}
use Rattle.std.specs.Option.{option_map_or}
use Rattle.std.proofs.lemmas.Bool.{cases_eq}
use Rattle.std.proofs.lemmas.List.FromFn.{length-range_with_len, get_or-range_with_len}
use Rattle.epoch_directory.specs.declared.table.SetPolicy.{SetPolicy}
use Rattle.epoch_directory.specs.declared.table.PublishFault.{PublishFault}
use Rattle.epoch_directory.specs.State.{State, set_count}
use Rattle.epoch_directory.specs.Tables.{fault_at, table_fault}
use Rattle.epoch_directory.proofs.Lines.{find_first}

-- nothing is wrong at the sets below this one
abbrev pub IsRightBelow : State → List SetPolicy → ℕ → Type 0
IsRightBelow state table set = (lower : ℕ) → lower < set → fault_at state table lower ≡ None

-- the first number that has something is told
found : {X : Type 0} (f : ℕ → Option X) (count n : ℕ) (x : X) → n < count → ((k : ℕ) → k < n → f k ≡ None) → f n ≡ Some x
    → option_map_or f (find (λ k. is_some (f k)) (range_with_len 0 count)) None ≡ Some x
found {X} f count n x within before here =
    let there : n < length (range_with_len 0 count) = omega (arith, length-range_with_len 0 count) in
    let at : (k : ℕ) → k < count → get_or (range_with_len 0 count) k 0 ≡ k = λ k low. get_or-range_with_len 0 count k 0 low ∙ omega arith in
    ap (λ o. option_map_or f o None)
    (find_first (λ k. is_some (f k)) (range_with_len 0 count) n 0 there
    (ap (λ k. is_some (f k)) (at n within) ∙ ap is_some here)
    (λ k below. ap (λ j. is_some (f j)) (at k (omega (arith, below, within))) ∙ ap is_some (before k below)))
    ∙ ap f (at n within) ∙ here

-- where no number has anything, nothing is told
nothing : {X : Type 0} (f : ℕ → Option X) (a n : ℕ) → ((k : ℕ) → a ≤ k → k < a + n → f k ≡ None) → option_map_or f (find (λ k. is_some (f k)) (range_with_len a n)) None ≡ None
nothing {X} f a zero right = refl
nothing {X} f a (suc n) right =
    ap (λ o. option_map_or f (cond (is_some o) (Some a) (find (λ k. is_some (f k)) (range_with_len (a + 1) n))) None) (right a (omega arith) (omega arith))
    ∙ nothing f (a + 1) n (λ k low high. right k (omega (arith, low)) (omega (arith, high)))

-- and where nothing is told, none has anything
none_there : {X : Type 0} (f : ℕ → Option X) (a n : ℕ) → option_map_or f (find (λ k. is_some (f k)) (range_with_len a n)) None ≡ None → (k : ℕ) → a ≤ k → k < a + n → f k ≡ None
none_there {X} f a zero told k low high = absurd (omega (arith, low, high))
none_there {X} f a (suc n) told k low high = by (f a) refl told (none_there f (a + 1) n) (cases_eq k a)
  where
    by : (o : Option X) → f a ≡ o → option_map_or f (cond (is_some o) (Some a) (find (λ j. is_some (f j)) (range_with_len (a + 1) n))) None ≡ None
        → (option_map_or f (find (λ j. is_some (f j)) (range_with_len (a + 1) n)) None ≡ None → (j : ℕ) → a + 1 ≤ j → j < a + 1 + n → f j ≡ None)
        → (k ≡ a) ⊎ (k ≢ a) → f k ≡ None
    by None is rest later (inl same) = ap f same ∙ is
    by None is rest later (inr other) = later rest k (omega (arith, low, other)) (omega (arith, high))
    by (Some x) is wrong later _ = absurd (let e = sym is ∙ wrong in cc)

-- nothing is wrong at one more set
pub right_more : (state : State) (table : List SetPolicy) (set : ℕ) → IsRightBelow state table set → None ≡ fault_at state table set → IsRightBelow state table (set + 1)
right_more state table set right here lower below = by (cases_eq lower set)
  where
    by : (lower ≡ set) ⊎ (lower ≢ set) → fault_at state table lower ≡ None
    by (inl same) = ap (fault_at state table) same ∙ sym here
    by (inr other) = right lower (omega (arith, below, other))

pub fault_found : (state : State) (table : List SetPolicy) (set : ℕ) (fault : PublishFault) → IsRightBelow state table set → set < set_count state → Some fault ≡ fault_at state table set → Some fault ≡ table_fault state table
unfolding table_fault
fault_found state table set fault right within here = sym (found (fault_at state table) (set_count state) set fault within right (sym here))

pub no_fault : (state : State) (table : List SetPolicy) (count : ℕ) → IsRightBelow state table count → set_count state ≤ count → None ≡ table_fault state table
unfolding table_fault
no_fault state table count right all = sym (nothing (fault_at state table) 0 (set_count state) (λ k low high. right k (omega (arith, high, all))))

-- a table without a fault is right at every set
pub right_everywhere : (state : State) (table : List SetPolicy) → table_fault state table ≡ None → IsRightBelow state table (set_count state)
unfolding table_fault
right_everywhere state table told lower within = none_there (fault_at state table) 0 (set_count state) told lower (omega arith) (omega (arith, within))
