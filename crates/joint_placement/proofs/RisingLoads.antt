-- The variables of the loads on a centre rise.
use Rattle.std.proofs.Common.{◌≡◌, ℕ, ◌+◌, ◌*◌, ◌<◌, ◌≤◌, List, [], ◌∷◌, length, map, refl, sym, subst, arith}
use Rattle.std.specs.List.{sum_by, flat_map, range_with_len, AllByRecursion}
use Rattle.std.proofs.lemmas.Nat.{mul-le}
use Rattle.workload.specs.World.{Lists, centre_count, rule_of, members_of, IsComplete, IsNamed}
use Rattle.workload.specs.declared.rules.Demand.{Demand}
use Rattle.workload.specs.declared.rules.Mode.{Mode}
use Rattle.workload.specs.declared.rules.Mode.TheVariants as mode
use Rattle.placement.specs.Placement.{IsSet}
use Rattle.placement_rows.specs.Centres.{numbered_members, nobody}
use Rattle.placement_rows.proofs.Each.{each-append, each-map, each-numbered}
use Rattle.placement_rows.proofs.Loops.{pieces_next}
use Rattle.placement_relay.specs.Reading.{h}
use Rattle.placement_strong.specs.Variables.{g_var, w_var}
use Rattle.joint_placement.specs.Loads.{units}
use Rattle.joint_placement.specs.Variables.{variables_of, first_of}
use Rattle.joint_placement.specs.Capacity.{loads_by, set_loads, load_from, joint_loads}
use Rattle.joint_placement.proofs.Stacks.{by-next}
use Rattle.joint_placement.proofs.Counting.{first-next}
use Rattle.joint_placement.proofs.KnownLoads.{IsBelow, known_loads}
use Rattle.joint_placement.proofs.Rising.{Rises, rises-none, rises-one, rises-append, rises-map, rises-numbered}

-- the variable of a load
abbrev pub var_of : ℕ × ℕ → ℕ
var_of load = load.0

module _ (w : Lists) (unit d set : ℕ) (low : d < centre_count w) where
  reads : (from : ℕ) → from ≤ h w 0 d → Rises var_of from (map (λ am. (h w am.0 d, units unit am.1.gets)) (numbered_members w set))
  reads from at = rises-numbered var_of (λ (am : ℕ × Demand). (h w am.0 d, units unit am.1.gets)) (λ a. h w a d) (λ a m. refl) (λ a. omega arith) from 0 (members_of w set) at

  writes : (from : ℕ) → from ≤ w_var w set 0 d → Rises var_of from (map (λ am. (w_var w set am.0 d, 2 * units unit am.1.puts)) (numbered_members w set))
  writes from at = rises-numbered var_of (λ (am : ℕ × Demand). (w_var w set am.0 d, 2 * units unit am.1.puts)) (λ a. w_var w set a d) (λ a m. refl) (λ a. omega arith) from 0 (members_of w set) at

  reads_below : AllByRecursion (λ load. var_of load < centre_count w + length (members_of w set) * centre_count w) (map (λ am. (g_var w am.0 d, units unit am.1.gets)) (numbered_members w set))
  reads_below =
      let n = centre_count w in
      let k = length (members_of w set) in
      each-map (λ load. var_of load < n + k * n) (λ (am : ℕ × Demand). g_var w am.0 d < n + k * n) (λ (am : ℕ × Demand). (g_var w am.0 d, units unit am.1.gets)) (λ am h. h) (numbered_members w set)
      (each-numbered (λ (am : ℕ × Demand). g_var w am.0 d < n + k * n) nobody 0 (members_of w set)
      (λ a in'. let block : (a + 1) * n ≤ k * n = mul-le (a + 1) n k n (omega arith) (omega arith) in omega (arith, block)))

  by_mode : (m : Mode) → Rises var_of 0 (loads_by m w unit d set)
  by_mode mode.Direct = rises-one var_of 0 (d, sum_by (λ m. units unit m.puts) (members_of w set)) _ (omega arith) (reads (d + 1) (omega arith))
  by_mode mode.Relay = rises-one var_of 0 (d, sum_by (λ m. units unit m.puts) (members_of w set)) _ (omega arith) (reads (d + 1) (omega arith))
  by_mode mode.Strong =
      let n = centre_count w in
      let k = length (members_of w set) in
      rises-append var_of 0 (n + k * n) (map (λ am. (g_var w am.0 d, units unit am.1.gets)) (numbered_members w set)) _ (omega arith) (reads 0 (omega arith)) reads_below (writes (n + k * n) (omega arith))

  rises_in_set : Rises var_of 0 (set_loads w unit d set)
  unfolding set_loads
  rises_in_set = by_mode (rule_of w set).mode

module _ (w : Lists) (complete : IsComplete w) (named : IsNamed w) (unit d : ℕ) (low : d < centre_count w) where
  abbrev piece : ℕ → List (ℕ × ℕ)
  piece set = map (load_from (first_of w set)) (set_loads w unit d set)

  -- the loads of the first sets
  record AreSorted (n : ℕ) : Type 0 where
    rises : Rises var_of 0 (flat_map piece (range_with_len 0 n))
    below : AllByRecursion (λ load. var_of load < first_of w n) (flat_map piece (range_with_len 0 n))

  one-more : (n : ℕ) → n < length w.sets → AreSorted n → AreSorted (n + 1)
  one-more n there before =
      let first = first_of w n in
      let mine : IsSet w n = record { complete = complete; named = named; there = there } in
      let rising : Rises var_of first (piece n) = subst (λ k. Rises var_of k (piece n)) (let e : first + 0 ≡ first = omega arith in e) (rises-map var_of var_of (load_from first) first (λ load. refl) 0 (set_loads w unit d n) (rises_in_set w unit d n low)) in
      let inside : AllByRecursion (λ load. var_of load < first_of w (n + 1)) (piece n) =
      each-map (λ load. var_of load < first_of w (n + 1)) (IsBelow (variables_of w n)) (load_from first) (λ load h. omega (arith, h, first-next w n)) (set_loads w unit d n) (known_loads w unit d n mine low) in
      let earlier : AllByRecursion (λ load. var_of load < first_of w (n + 1)) (flat_map piece (range_with_len 0 n)) =
      weaker (flat_map piece (range_with_len 0 n)) before.below in
      record {
        rises = subst (Rises var_of 0) (sym (pieces_next piece n)) (rises-append var_of 0 first (flat_map piece (range_with_len 0 n)) (piece n) (omega arith) before.rises before.below rising);
        below = subst (AllByRecursion (λ load. var_of load < first_of w (n + 1))) (sym (pieces_next piece n)) (each-append (λ load. var_of load < first_of w (n + 1)) (flat_map piece (range_with_len 0 n)) (piece n) earlier inside);
      }
    where
      weaker : (loads : List (ℕ × ℕ)) → AllByRecursion (λ load. var_of load < first_of w n) loads → AllByRecursion (λ load. var_of load < first_of w (n + 1)) loads
      weaker [] all = tt
      weaker (load ∷ loads) all = (let here = all.0 in omega (arith, first-next w n), weaker loads all.1)

  sorted : (n : ℕ) → n ≤ length w.sets → AreSorted n
  sorted = by-next (λ n. n ≤ length w.sets → AreSorted n) (λ h. record { rises = rises-none var_of 0; below = tt }) (λ n before h. one-more n (omega arith) (before (omega arith)))

  pub loads-rise : Rises var_of 0 (joint_loads w unit d)
  unfolding joint_loads
  loads-rise = (sorted (length w.sets) (omega arith)).rises

  pub loads-below : AllByRecursion (λ load. var_of load < first_of w (length w.sets)) (joint_loads w unit d)
  unfolding joint_loads
  loads-below = (sorted (length w.sets) (omega arith)).below
