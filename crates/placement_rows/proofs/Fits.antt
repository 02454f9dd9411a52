-- Rows that keep what is asked of a program's rows: their variables are there and rise, and they are
-- light.
use Rattle.std.proofs.Common.{◌≡◌, ℕ, zero, suc, ◌+◌, ◌<◌, ◌≤◌, inl, inr, Bool, true, false, cond, List, [], ◌∷◌, ◌++◌, length, get_or, map, Some, refl, sym, ap, subst, ◌∙◌, arith, pos, unsigned_abs}
use Rattle.std.specs.Prelude.{slice_get, slice_index, All}
use Rattle.std.specs.List.{sum_by, filter, range_with_len, AllPairs, AllByRecursion}
use Rattle.std.specs.List.Sorted.{IsStrictlyIncreasing}
use Rattle.std.proofs.lemmas.Bool.{cases_lt}
use Rattle.std.proofs.lemmas.List.{get_or-map, get_or_append_left, get_or-append-add, length-map, length-append, map-append}
use Rattle.std.proofs.lemmas.List.Elements.{All-from_recursion, All-append, All-cons, All-nil}
use Rattle.std.proofs.lemmas.List.Sums.{sum_by-cons, sum_by-append, length-filter, count_by-le-length}
use Rattle.std.proofs.lemmas.List.FromFn.{length-range_with_len, get_or-range_with_len, length-enumerate_from, get_or-enumerate_from}
use Rattle.std.proofs.lemmas.List.Kept.{IsStrictlyIncreasing-filter, AllPairs-filter}
use Rattle.std.proofs.lemmas.Simd.{map-map}
use Rattle.workload.specs.World.{Lists, rule_of}
use Rattle.slo_rules.specs.Rules.{same_provider}
use Rattle.zero_one.specs.declared.rows.Entry.{Entry}
use Rattle.zero_one.specs.declared.rows.Row.{Row}
use Rattle.zero_one.specs.Rows.{KnowsItsVars, HasRisingVars, row_weight}
use Rattle.placement_rows.specs.Rows.{plus, minus}
use Rattle.placement_rows.specs.Providers.{providers, numbered_providers, keeps_replica, enough_providers}
use Rattle.placement_rows.proofs.Each.{each-append, each-map, each-range, each-numbered}

-- a row keeps what is asked of it among this many variables, and is light
pub record IsFit (count : ℕ) (row : Row) : Type 0 where
  pub known : KnowsItsVars count row
  pub rising : HasRisingVars row
  pub light : row_weight row ≤ 288

range_rises : (n : ℕ) → IsStrictlyIncreasing (range_with_len 0 n)
range_rises n k inside =
    let long = length-range_with_len 0 n in
    omega (arith, long, get_or-range_with_len 0 n k 0 (omega arith), get_or-range_with_len 0 n (k + 1) 0 (omega arith))

mapped_rises : (var : ℕ → ℕ) → ((d e : ℕ) → d < e → var d < var e) → (xs : List ℕ) → IsStrictlyIncreasing xs → IsStrictlyIncreasing (map var xs)
mapped_rises var up xs rising k inside =
    let long = length-map xs var in
    let step = up (get_or xs k 0) (get_or xs (k + 1) 0) (rising k (omega arith)) in
    omega (arith, step, get_or-map var xs k 0 0 (omega arith), get_or-map var xs (k + 1) 0 0 (omega arith))

each-filter : (P : ℕ → Type 0) (p : ℕ → Bool) (xs : List ℕ) → AllByRecursion P xs → AllByRecursion P (filter p xs)
each-filter P p [] all = tt
each-filter P p (x ∷ xs) all = elim (p x) as (λ b. AllByRecursion P (cond b (x ∷ filter p xs) (filter p xs))) [
  | true ↦ (all.0, each-filter P p xs all.1)
  | false ↦ each-filter P p xs all.1
]

weight_of_items : {X : Type 0} (var : X → ℕ) (xs : List X) → sum_by (λ (entry : Entry). unsigned_abs entry.coef) (map (λ x. plus (var x)) xs) ≡ length xs
weight_of_items var [] = refl
weight_of_items var (x ∷ xs) = omega (arith, sum_by-cons (λ (entry : Entry). unsigned_abs entry.coef) (plus (var x)) (map (λ x. plus (var x)) xs), weight_of_items var xs)

-- a row that adds the variables of some centres, which rise with these
pub rising_row : (count n least : ℕ) (var : ℕ → ℕ) (p : ℕ → Bool) → ((d e : ℕ) → d < e → var d < var e) → ((d : ℕ) → d < n → var d < count) → n ≤ 16 → least ≤ 4
    → IsFit count (record { entries = map (λ d. plus (var d)) (filter p (range_with_len 0 n)); bound = pos least })
rising_row count n least var p up low few small =
    let near = filter p (range_with_len 0 n) in
    let vars = map-map (λ (entry : Entry). entry.var) (λ d. plus (var d)) near in
    record {
      known = All-from_recursion (λ (entry : Entry). entry.var < count) (map (λ d. plus (var d)) near)
          (each-map (λ (entry : Entry). entry.var < count) (λ d. d < n) (λ d. plus (var d)) low near (each-filter (λ d. d < n) p (range_with_len 0 n) (each-range (λ d. d < n) 0 n (λ d from to. omega arith))));
      rising = subst IsStrictlyIncreasing (sym vars) (mapped_rises var up near (IsStrictlyIncreasing-filter p (range_with_len 0 n) (range_rises n)));
      light = omega (arith, weight_of_items var near, length-filter p (range_with_len 0 n), count_by-le-length p (range_with_len 0 n), length-range_with_len 0 n);
    }

-- the same, where the variables follow one another
pub plus_row : (count o n least : ℕ) (p : ℕ → Bool) → o + n ≤ count → n ≤ 16 → least ≤ 4 → IsFit count (record { entries = map (λ d. plus (o + d)) (filter p (range_with_len 0 n)); bound = pos least })
plus_row count o n least p low few small = rising_row count n least (λ d. o + d) p (λ d e lt. omega arith) (λ d below. omega arith) few small

-- a variable below all others may come first
rise-first : (z : ℕ) (xs : List ℕ) → IsStrictlyIncreasing xs → All (λ v. z < v) xs → IsStrictlyIncreasing (z ∷ xs)
rise-first z xs rising above zero inside = above 0 0 (omega arith)
rise-first z xs rising above (suc k) inside =
    let at : suc (k + 1) ≡ suc k + 1 = omega arith in
    subst (λ i. slice_index xs k < slice_index (z ∷ xs) i) at (rising k (omega arith))

-- a row that takes a variable from those of all centres, which follow it and rise with these
pub answered_row : (count first n : ℕ) (var : ℕ → ℕ) → ((d e : ℕ) → d < e → var d < var e) → ((d : ℕ) → d < n → (first < var d) × (var d < count)) → first < count → n ≤ 16
    → IsFit count (record { entries = minus first ∷ map (λ d. plus (var d)) (range_with_len 0 n); bound = pos 0 })
answered_row count first n var up within low few =
    let ds = range_with_len 0 n in
    let vars = map-map (λ (entry : Entry). entry.var) (λ d. plus (var d)) ds in
    let each : AllByRecursion (λ d. d < n) ds = each-range (λ d. d < n) 0 n (λ d from to. omega arith) in
    record {
      known = All-from_recursion (λ (entry : Entry). entry.var < count) (minus first ∷ map (λ d. plus (var d)) ds)
          (low, each-map (λ (entry : Entry). entry.var < count) (λ d. d < n) (λ d. plus (var d)) (λ d below. (within d below).1) ds each);
      rising = subst (λ vs. IsStrictlyIncreasing (first ∷ vs)) (sym vars) (rise-first first (map var ds) (mapped_rises var up ds (range_rises n))
          (All-from_recursion (λ v. first < v) (map var ds) (each-map (λ v. first < v) (λ d. d < n) var (λ d below. (within d below).0) ds each)));
      light = omega (arith, sum_by-cons (λ (entry : Entry). unsigned_abs entry.coef) (minus first) (map (λ d. plus (var d)) ds), weight_of_items var ds, length-range_with_len 0 n);
    }

two_rise : (u v k : ℕ) → u < v → k + 1 < 2 → slice_index (u ∷ v ∷ []) k < slice_index (u ∷ v ∷ []) (k + 1)
two_rise u v zero rising inside = rising
two_rise u v (suc k) rising inside = absurd (omega arith)

-- a row of two variables
pub two_row : (count u v : ℕ) → u < v → v < count → IsFit count (record { entries = plus u ∷ minus v ∷ []; bound = pos 0 })
two_row count u v rising low = record {
  known = All-from_recursion (λ (entry : Entry). entry.var < count) (plus u ∷ minus v ∷ []) (omega arith, (low, tt));
  rising = λ k inside. two_rise u v k rising inside;
  light = omega arith;
}

-- a row of two variables of which the first is taken away
pub two_row_back : (count u v : ℕ) → u < v → v < count → IsFit count (record { entries = minus u ∷ plus v ∷ []; bound = pos 0 })
two_row_back count u v rising low = record {
  known = All-from_recursion (λ (entry : Entry). entry.var < count) (minus u ∷ plus v ∷ []) (omega arith, (low, tt));
  rising = λ k inside. two_rise u v k rising inside;
  light = omega arith;
}

-- a variable above all others may come last
rise-last : (xs : List ℕ) (z : ℕ) → IsStrictlyIncreasing xs → All (λ v. v < z) xs → IsStrictlyIncreasing (xs ++ z ∷ [])
rise-last xs z rising below k inside = elim (cases_lt (k + 1) (length xs)) [
  | inl in' ↦ omega (arith, rising k in', get_or_append_left xs (z ∷ []) 0 k (omega arith), get_or_append_left xs (z ∷ []) 0 (k + 1) in')
  | inr last ↦
      let at : k + 1 ≡ length xs + 0 = omega (arith, length-append xs (z ∷ []), inside) in
      let in' : k < length xs = omega arith in
      omega (arith, below k 0 in', get_or_append_left xs (z ∷ []) 0 k in', ap (λ i. get_or (xs ++ z ∷ []) i 0) at, get_or-append-add xs (z ∷ []) 0 0)
]

module _ (w : Lists) (set : ℕ) (count first : ℕ) (keeping : List (ℕ × ℕ)) (rising : AllPairs (λ a b. a.0 < b.0) keeping) (below : AllByRecursion (λ k. k.0 < first) keeping) (few : length keeping ≤ 256) where
  each-kept : (p : ℕ × ℕ → Bool) (ks : List (ℕ × ℕ)) → AllByRecursion (λ k. k.0 < first) ks → AllByRecursion (λ k. k.0 < first) (filter p ks)
  each-kept p [] all = tt
  each-kept p (k ∷ ks) all = elim (p k) as (λ b. AllByRecursion (λ k. k.0 < first) (cond b (k ∷ filter p ks) (filter p ks))) [
    | true ↦ (all.0, each-kept p ks all.1)
    | false ↦ each-kept p ks all.1
  ]

  pub keeps_fits : (z e : ℕ) → first ≤ z → z < count → IsFit count (keeps_replica w keeping (z, e))
  keeps_fits z e above low =
      let kept = filter (λ k. same_provider w e k.1) keeping in
      let low_kept = each-kept (λ k. same_provider w e k.1) keeping below in
      let vars = map (λ (k : ℕ × ℕ). k.0) kept in
      let entries = map (λ (k : ℕ × ℕ). plus k.0) kept in
      let rises : IsStrictlyIncreasing vars =
      λ k inside.
      let long = length-map kept (λ (k : ℕ × ℕ). k.0) in
      omega (arith, AllPairs-filter (λ a b. a.0 < b.0) (λ k. same_provider w e k.1) keeping rising k (k + 1) (0, 0) (omega arith) (omega arith), get_or-map (λ (k : ℕ × ℕ). k.0) kept k (0, 0) 0 (omega arith), get_or-map (λ (k : ℕ × ℕ). k.0) kept (k + 1) (0, 0) 0 (omega arith)) in
      let all_vars : map (λ (entry : Entry). entry.var) (entries ++ minus z ∷ []) ≡ vars ++ z ∷ [] =
      map-append (λ (entry : Entry). entry.var) entries (minus z ∷ []) ∙ ap (λ vs. vs ++ z ∷ []) (map-map (λ (entry : Entry). entry.var) (λ (k : ℕ × ℕ). plus k.0) kept) in
      record {
        known = All-append (λ (entry : Entry). entry.var < count) entries (minus z ∷ [])
            (All-from_recursion (λ (entry : Entry). entry.var < count) entries (each-map (λ (entry : Entry). entry.var < count) (λ k. k.0 < first) (λ (k : ℕ × ℕ). plus k.0) (λ k small. omega arith) kept low_kept))
            (All-cons (λ (entry : Entry). entry.var < count) (minus z) [] low (All-nil (λ (entry : Entry). entry.var < count)));
        rising = subst IsStrictlyIncreasing (sym all_vars) (rise-last vars z rises
            (All-from_recursion (λ v. v < z) vars (each-map (λ v. v < z) (λ k. k.0 < first) (λ (k : ℕ × ℕ). k.0) (λ k small. omega arith) kept low_kept)));
        light = omega (arith, sum_by-append (λ (entry : Entry). unsigned_abs entry.coef) entries (minus z ∷ []), weight_of_items (λ (k : ℕ × ℕ). k.0) kept, length-filter (λ (k : ℕ × ℕ). same_provider w e k.1) keeping, count_by-le-length (λ (k : ℕ × ℕ). same_provider w e k.1) keeping);
      }

  enough_fits : first + length (providers w) ≤ count → length (providers w) ≤ 16 → (rule_of w set).providers ≤ 16 → IsFit count (enough_providers w set first)
  enough_fits low short many =
      let zs = numbered_providers w first in
      let entries = map (λ (ze : ℕ × ℕ). plus ze.0) zs in
      let long = length-enumerate_from first (providers w) in
      record {
        known = All-from_recursion (λ (entry : Entry). entry.var < count) entries (each-map (λ (entry : Entry). entry.var < count) (λ (ze : ℕ × ℕ). ze.0 < count) (λ (ze : ℕ × ℕ). plus ze.0) (λ ze small. small) zs
            (each-numbered (λ (ze : ℕ × ℕ). ze.0 < count) 0 first (providers w) (λ j in'. omega arith)));
        rising = λ k inside.
            let vars = map-map (λ (entry : Entry). entry.var) (λ (ze : ℕ × ℕ). plus ze.0) zs in
            let size = length-map entries (λ (entry : Entry). entry.var) in
            let size' = length-map zs (λ (ze : ℕ × ℕ). plus ze.0) in
            omega (
              arith,
              ap (λ (vs : List ℕ). get_or vs k 0) vars,
              ap (λ (vs : List ℕ). get_or vs (k + 1) 0) vars,
              get_or-map (λ (ze : ℕ × ℕ). ze.0) zs k (0, 0) 0 (omega arith),
              get_or-map (λ (ze : ℕ × ℕ). ze.0) zs (k + 1) (0, 0) 0 (omega arith),
              ap (λ (ze : ℕ × ℕ). ze.0) (get_or-enumerate_from first (providers w) k (0, 0) (omega arith)),
              ap (λ (ze : ℕ × ℕ). ze.0) (get_or-enumerate_from first (providers w) (k + 1) (0, 0) (omega arith)),
            );
        light = omega (arith, weight_of_items (λ (ze : ℕ × ℕ). ze.0) zs, long);
      }

  -- the rows of providers are in order
  pub provider-rows-fit : first + length (providers w) ≤ count → length (providers w) ≤ 16 → (rule_of w set).providers ≤ 16 → (asks : Bool)
      → AllByRecursion (IsFit count) (cond asks (map (keeps_replica w keeping) (numbered_providers w first) ++ enough_providers w set first ∷ []) [])
  provider-rows-fit low short many false = tt
  provider-rows-fit low short many true =
      each-append (IsFit count) (map (keeps_replica w keeping) (numbered_providers w first)) (enough_providers w set first ∷ [])
      (each-map (IsFit count) (λ (ze : ℕ × ℕ). (first ≤ ze.0) × (ze.0 < count)) (keeps_replica w keeping) (λ ze inside. keeps_fits ze.0 ze.1 inside.0 inside.1) (numbered_providers w first)
      (each-numbered (λ (ze : ℕ × ℕ). (first ≤ ze.0) × (ze.0 < count)) 0 first (providers w) (λ j in'. (omega arith, omega arith))))
      (enough_fits low short many, tt)

-- the row at a place has what every row has
pub at_place : (P : Row → Type 0) (rows : List Row) (at : ℕ) (row : Row) → AllByRecursion P rows → slice_get rows at ≡ Some row → P row
at_place P [] at row all is = cc
at_place P (r ∷ rows) zero row all is = let same : r ≡ row = cc in subst P same all.0
at_place P (r ∷ rows) (suc at) row all is = at_place P rows at row all.1 is
