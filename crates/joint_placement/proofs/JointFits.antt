-- The joint program's rows are in order, and its weight is that of its parts; so its making finds no
-- fault but a limit.
use Rattle.std.proofs.Common.{◌≡◌, ℕ, zero, suc, ◌+◌, ◌*◌, ◌^◌, ◌<◌, ◌≤◌, inl, inr, pos, neg_ℤ, unsigned_abs, Bool, true, false, cond, List, [], ◌∷◌, ◌++◌, length, map, refl, sym, ap, subst, ◌∙◌, arith}
use Rattle.std.specs.Prelude.{nat_lt}
use Rattle.std.specs.List.{sum_by, filter, flat_map, All, AllByRecursion}
use Rattle.std.proofs.lemmas.Bool.{lt-ltb}
use Rattle.std.proofs.lemmas.Int.{ints}
use Rattle.std.proofs.lemmas.List.{length-append, length-map}
use Rattle.std.proofs.lemmas.List.FromFn.{length-range_with_len}
use Rattle.std.proofs.lemmas.List.Elements.{All-from_recursion, recursion_from_All}
use Rattle.std.proofs.lemmas.List.Sums.{sum_by-append, sum_by-cons}
use Rattle.zero_one.specs.declared.rows.Entry.{Entry}
use Rattle.zero_one.specs.declared.rows.Row.{Row}
use Rattle.zero_one.specs.declared.programs.ProgramFault.{ProgramFault}
use Rattle.zero_one.specs.declared.programs.ProgramFault.TheVariants.{NoSuchVar, Unsorted, Limit}
use Rattle.zero_one.specs.Rows.{KnowsItsVars, HasRisingVars, row_weight, weight_of}
use Rattle.zero_one.specs.Faults.{HasFault}
use Rattle.workload.specs.World.{Lists, centre_count, IsComplete, IsNamed}
use Rattle.placement.specs.Placement.{IsSet, program_of}
use Rattle.placement_rows.specs.Centres.{centres}
use Rattle.placement_rows.proofs.Each.{each-append, each-map, each-range}
use Rattle.placement_rows.proofs.Fits.{at_place}
use Rattle.placement_rows.proofs.Growing.{sum_by-map}
use Rattle.placement_rows.proofs.Sums.{sum_by-agree, sum_by-filter}
use Rattle.machine_text.specs.Machines.{Fleet, machine_of}
use Rattle.joint_placement.specs.JointPlans.{sets}
use Rattle.joint_placement.specs.Variables.{first_of, first_digit, places, joint_costs}
use Rattle.joint_placement.specs.Capacity.{joint_loads, load_entry, digit_entry, is_load, capacity_row}
use Rattle.joint_placement.specs.Programs.{moved_entry, moved_row, set_rows, joint_rows}
use Rattle.joint_placement.proofs.Stacks.{each-stack}
use Rattle.joint_placement.proofs.Parts.{set_costs, variables-are}
use Rattle.joint_placement.proofs.Counting.{first-next, first-up, digit-next, digit-none, digit-up, all-counted, sets-counted}
use Rattle.joint_placement.proofs.KnownRows.{rows-in-order}
use Rattle.joint_placement.proofs.Rising.{Rises, rises-append, rises-filter, rises-map, rises-range, increasing, rising-back}
use Rattle.joint_placement.proofs.RisingLoads.{var_of, loads-rise, loads-below}

-- the variable of an entry
abbrev entry_var : Entry → ℕ
entry_var e = e.var

-- a row is in order among so many variables
record IsInOrder (count : ℕ) (row : Row) : Type 0 where
  known : KnowsItsVars count row
  rising : HasRisingVars row

each-filter : (P : ℕ × ℕ → Type 0) (p : ℕ × ℕ → Bool) (xs : List (ℕ × ℕ)) → AllByRecursion P xs → AllByRecursion P (filter p xs)
each-filter P p [] all = tt
each-filter P p (x ∷ xs) all = elim (p x) as (λ b. AllByRecursion P (cond b (x ∷ filter p xs) (filter p xs))) [
  | true ↦ (all.0, each-filter P p xs all.1)
  | false ↦ each-filter P p xs all.1
]

-- a row that is moved up
moved-order : (first n count : ℕ) (row : Row) → first + n ≤ count → KnowsItsVars n row → HasRisingVars row → IsInOrder count (moved_row first row)
moved-order first n count row room known rising = record {
  known = All-from_recursion (λ (e : Entry). e.var < count) (map (moved_entry first) row.entries)
      (each-map (λ (e : Entry). e.var < count) (λ (e : Entry). e.var < n) (moved_entry first) (λ e h. omega (arith, h, room)) row.entries (recursion_from_All (λ (e : Entry). e.var < n) row.entries known));
  rising = increasing entry_var (first + 0) (map (moved_entry first) row.entries) (rises-map entry_var entry_var (moved_entry first) first (λ e. refl) 0 row.entries (rising-back entry_var 0 row.entries (λ some. omega arith) rising));
}

moved-rows : (first n count : ℕ) (rows : List Row) → first + n ≤ count → AllByRecursion (KnowsItsVars n) rows → AllByRecursion HasRisingVars rows → AllByRecursion (IsInOrder count) (map (moved_row first) rows)
moved-rows first n count [] room known rising = tt
moved-rows first n count (row ∷ rows) room known rising = (moved-order first n count row room known.0 rising.0, moved-rows first n count rows room known.1 rising.1)

module _ (w : Lists) (fleet : Fleet) (complete : IsComplete w) (named : IsNamed w) where
  capacity-order : (d : ℕ) → d < centre_count w → IsInOrder (length (joint_costs w fleet)) (capacity_row w fleet d)
  unfolding capacity_row
  capacity-order d low =
      let count = length (joint_costs w fleet) in
      let sum = first_of w (length w.sets) in
      let first = first_digit w fleet d in
      let m = machine_of fleet d in
      let loads = filter is_load (joint_loads w fleet.unit d) in
      let begin : sum ≤ first = omega (arith, digit-up w fleet d 0 (omega arith), digit-none w fleet) in
      let end : first + m.digits ≤ count = omega (arith, digit-next w fleet d, digit-up w fleet (centre_count w) (d + 1) (omega arith), all-counted w fleet) in
      let below = each-filter (λ load. var_of load < sum) is_load (joint_loads w fleet.unit d) (loads-below w complete named fleet.unit d low) in
      let up : Rises var_of 0 loads = rises-filter var_of is_load 0 (joint_loads w fleet.unit d) (loads-rise w complete named fleet.unit d low) in
      let entries : Rises entry_var 0 (map load_entry loads) = rises-map var_of entry_var load_entry 0 (λ load. let e : load.0 ≡ 0 + load.0 = omega arith in e) 0 loads up in
      let digits : Rises entry_var first (map (digit_entry first m) (places m)) = subst (λ k. Rises entry_var k (map (digit_entry first m) (places m))) (let e : first + 0 ≡ first = omega arith in e) (rises-range entry_var (digit_entry first m) first (λ j. refl) 0 m.digits) in
      record {
        known = All-from_recursion (λ (e : Entry). e.var < count) (map load_entry loads ++ map (digit_entry first m) (places m))
            (each-append (λ (e : Entry). e.var < count) (map load_entry loads) (map (digit_entry first m) (places m))
            (each-map (λ (e : Entry). e.var < count) (λ load. var_of load < sum) load_entry (λ load h. omega (arith, h, sets-counted w fleet)) loads below)
            (each-map (λ (e : Entry). e.var < count) (λ j. j < m.digits) (digit_entry first m) (λ j h. omega (arith, h, end)) (places m) (each-range (λ j. j < m.digits) 0 m.digits (λ j from to. omega arith))));
        rising = increasing entry_var 0 (map load_entry loads ++ map (digit_entry first m) (places m))
            (rises-append entry_var 0 first (map load_entry loads) (map (digit_entry first m) (places m)) (omega arith) entries
            (each-map (λ (e : Entry). e.var < first) (λ load. var_of load < sum) load_entry (λ load h. omega (arith, h, begin)) loads below) digits);
      }

  set-order : (set : ℕ) → set < length w.sets → AllByRecursion (IsInOrder (length (joint_costs w fleet))) (set_rows w set)
  set-order set there =
      let mine : IsSet w set = record { complete = complete; named = named; there = there } in
      let o = rows-in-order w set mine in
      moved-rows (first_of w set) (length (set_costs w set)) (length (joint_costs w fleet)) (program_of w set).rows
      (omega (arith, first-next w set, variables-are w set, first-up w (length w.sets) (set + 1) (omega arith), sets-counted w fleet)) o.known o.rising

  all-in-order : AllByRecursion (IsInOrder (length (joint_costs w fleet))) (joint_rows w fleet)
  unfolding joint_rows
  all-in-order =
      each-append (IsInOrder (length (joint_costs w fleet))) (flat_map (set_rows w) (sets w)) (map (capacity_row w fleet) (centres w))
      (each-stack (IsInOrder (length (joint_costs w fleet))) (set_rows w) (length w.sets) set-order)
      (each-map (IsInOrder (length (joint_costs w fleet))) (λ d. d < centre_count w) (capacity_row w fleet) capacity-order (centres w) (each-range (λ d. d < centre_count w) 0 (centre_count w) (λ d from to. omega arith)))

  -- so the making of the program finds no fault where its limits are kept
  pub no-fault : (costs : List ℕ) (rows : List Row) → costs ≡ joint_costs w fleet → rows ≡ joint_rows w fleet → length costs ≤ 4096 → length rows ≤ 16384 → weight_of rows ≤ 10 ^ 7
      → (fault : ProgramFault) → HasFault costs rows fault → ⊥
  no-fault costs rows same same' few short light (NoSuchVar at) has =
      let fits = subst (AllByRecursion (IsInOrder (length (joint_costs w fleet)))) (sym same') all-in-order in
      has.broken.2 (subst (λ cs. KnowsItsVars (length cs) has.broken.0) (sym same) (at_place (IsInOrder (length (joint_costs w fleet))) rows at has.broken.0 fits has.broken.1).known)
  no-fault costs rows same same' few short light (Unsorted at) has =
      let fits = subst (AllByRecursion (IsInOrder (length (joint_costs w fleet)))) (sym same') all-in-order in
      has.1.broken.2 (at_place (IsInOrder (length (joint_costs w fleet))) rows at has.1.broken.0 fits has.1.broken.1).rising
  no-fault costs rows same same' few short light (Limit what number) has =
      elim has.2 [
        | inl many ↦ omega (arith, few, many.1, many.2)
        | inr rest ↦ elim rest [
          | inl long ↦ omega (arith, short, long.1, long.3)
          | inr heavy ↦ omega (arith, light, heavy.1, heavy.4)
        ]
      ]

-- how many rows there are
pub row-count : (w : Lists) (fleet : Fleet) → length (joint_rows w fleet) ≡ length (flat_map (set_rows w) (sets w)) + centre_count w
unfolding joint_rows
row-count w fleet =
    length-append (flat_map (set_rows w) (sets w)) (map (capacity_row w fleet) (centres w))
    ∙ ap (λ n. length (flat_map (set_rows w) (sets w)) + n) (length-map (centres w) (capacity_row w fleet) ∙ length-range_with_len 0 (centre_count w))

-- what they weigh
pub whole-weight : (w : Lists) (fleet : Fleet) → weight_of (joint_rows w fleet) ≡ weight_of (flat_map (set_rows w) (sets w)) + sum_by (λ d. row_weight (capacity_row w fleet d)) (centres w)
unfolding joint_rows
whole-weight w fleet =
    sum_by-append row_weight (flat_map (set_rows w) (sets w)) (map (capacity_row w fleet) (centres w))
    ∙ ap (λ n. weight_of (flat_map (set_rows w) (sets w)) + n) (sum_by-map row_weight (capacity_row w fleet) (centres w))

-- what the row of a centre weighs: all loads, and what all digits bear

kept_weight : (n : ℕ) → cond (nat_lt 0 n) (unsigned_abs (neg_ℤ (pos n))) 0 ≡ n
kept_weight zero = refl
kept_weight (suc n) = ap (λ t. cond t (unsigned_abs (neg_ℤ (pos (suc n)))) 0) (lt-ltb 0 (suc n) (omega arith)) ∙ (let e : unsigned_abs (neg_ℤ (pos (suc n))) ≡ suc n = omega (arith, ints) in e)

loads-weight : (loads : List (ℕ × ℕ)) → sum_by (λ (e : Entry). unsigned_abs e.coef) (map load_entry (filter is_load loads)) ≡ sum_by (λ load. load.1) loads
loads-weight loads =
    sum_by-map (λ (e : Entry). unsigned_abs e.coef) load_entry (filter is_load loads)
    ∙ sum_by-filter (λ (load : ℕ × ℕ). unsigned_abs (neg_ℤ (pos load.1))) is_load loads
    ∙ sum_by-agree (λ (load : ℕ × ℕ). cond (is_load load) (unsigned_abs (neg_ℤ (pos load.1))) 0) (λ load. load.1) (λ load. kept_weight load.1) loads

pub capacity-weight : (w : Lists) (fleet : Fleet) (d : ℕ) → row_weight (capacity_row w fleet d) ≡ sum_by (λ load. load.1) (joint_loads w fleet.unit d) + sum_by (λ j. 2 ^ j * (machine_of fleet d).capacity) (places (machine_of fleet d))
unfolding capacity_row
capacity-weight w fleet d =
    let loads = map load_entry (filter is_load (joint_loads w fleet.unit d)) in
    let m = machine_of fleet d in
    let first = first_digit w fleet d in
    let abs : Entry → ℕ = λ e. unsigned_abs e.coef in
    let digits : sum_by abs (map (digit_entry first m) (places m)) ≡ sum_by (λ j. 2 ^ j * m.capacity) (places m) = sum_by-map abs (digit_entry first m) (places m) in
    omega (arith, sum_by-append abs loads (map (digit_entry first m) (places m)), loads-weight (joint_loads w fleet.unit d), digits)

-- each load is at most all loads together
each-load : (m : ℕ) (loads : List (ℕ × ℕ)) → sum_by (λ load. load.1) loads ≤ m → AllByRecursion (λ load. load.1 ≤ m) loads
each-load m [] most = tt
each-load m (load ∷ loads) most = (
  omega (arith, most, sum_by-cons (λ (load : ℕ × ℕ). load.1) load loads),
  each-load m loads (omega (arith, most, sum_by-cons (λ (load : ℕ × ℕ). load.1) load loads)),
)

pub light-loads : (w : Lists) (fleet : Fleet) (d m : ℕ) → row_weight (capacity_row w fleet d) ≤ m → All (λ load. load.1 ≤ m) (joint_loads w fleet.unit d)
light-loads w fleet d m light = All-from_recursion (λ load. load.1 ≤ m) (joint_loads w fleet.unit d) (each-load m (joint_loads w fleet.unit d) (omega (arith, light, capacity-weight w fleet d)))
