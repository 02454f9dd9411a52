-- Each load is a small number.
use Rattle.std.proofs.Common.{ℕ, ◌+◌, ◌-◌, ◌*◌, ◌^◌, ◌<◌, ◌≤◌, length, get_or, map, arith}
use Rattle.std.specs.Prelude.{All}
use Rattle.std.specs.List.{sum_by, AllByRecursion}
use Rattle.std.proofs.Math.Nat.{div-le_self}
use Rattle.std.proofs.lemmas.List.Elements.{All-from_recursion, recursion_from_All}
use Rattle.std.proofs.lemmas.List.Sums.{sum_by-le}
use Rattle.workload.specs.Load.{no_set}
use Rattle.workload.specs.World.{Lists, IsComplete, IsDemandWithin, IsSetWithin, centre_count, set_of, rule_of, members_of}
use Rattle.workload.specs.declared.rules.Demand.{Demand}
use Rattle.workload.specs.declared.rules.Mode.{Mode}
use Rattle.workload.specs.declared.rules.Mode.TheVariants as mode
use Rattle.placement_rows.specs.Centres.{numbered_members, nobody}
use Rattle.placement_rows.proofs.Each.{each-append, each-map, each-numbered, each-weaker}
use Rattle.placement_relay.specs.Reading.{h}
use Rattle.placement_strong.specs.Variables.{g_var, w_var}
use Rattle.joint_placement.specs.Loads.{units}
use Rattle.joint_placement.specs.Capacity.{loads_by, set_loads, load_from, joint_loads}
use Rattle.joint_placement.specs.Variables.{first_of}
use Rattle.joint_placement.proofs.Stacks.{each-stack}

-- a load is at most so much
abbrev pub IsSmall : ℕ × ℕ → Type 0
IsSmall load = load.1 ≤ 2 ^ 34

-- there are no more units than requests, and one unit's worth
pub few-units : (unit requests : ℕ) → 1 ≤ unit → unit ≤ 10 ^ 9 → requests ≤ 10 ^ 9 → units unit requests ≤ 2 * 10 ^ 9
few-units unit requests some within few = omega (arith, div-le_self (requests + (unit - 1)) unit)

module _ (w : Lists) (unit set : ℕ) (complete : IsComplete w) (there : set < length w.sets) (some : 1 ≤ unit) (within : unit ≤ 10 ^ 9) where
  in_set : IsSetWithin (centre_count w) (set_of w set)
  in_set = complete.sets set no_set there

  member : (k : ℕ) → k < length (members_of w set) → IsDemandWithin (centre_count w) (get_or (members_of w set) k nobody)
  member k in' = in_set.members k nobody in'

  gets : (k : ℕ) → k < length (members_of w set) → units unit (get_or (members_of w set) k nobody).gets ≤ 2 * 10 ^ 9
  gets k in' = few-units unit (get_or (members_of w set) k nobody).gets some within (member k in').counts.gets

  puts : (k : ℕ) → k < length (members_of w set) → units unit (get_or (members_of w set) k nobody).puts ≤ 2 * 10 ^ 9
  puts k in' = few-units unit (get_or (members_of w set) k nobody).puts some within (member k in').counts.puts

  all_puts : sum_by (λ m. units unit m.puts) (members_of w set) ≤ 8 * (2 * 10 ^ 9)
  all_puts =
      let each : AllByRecursion (λ (m : Demand). units unit m.puts ≤ 2 * 10 ^ 9) (members_of w set) =
      each-weaker (IsDemandWithin (centre_count w)) (λ (m : Demand). units unit m.puts ≤ 2 * 10 ^ 9) (λ m h. few-units unit m.puts some within h.counts.puts) (members_of w set) (recursion_from_All (IsDemandWithin (centre_count w)) (members_of w set) in_set.members) in
      let most = sum_by-le (λ (m : Demand). units unit m.puts) (2 * 10 ^ 9) (members_of w set) (All-from_recursion (λ (m : Demand). units unit m.puts ≤ 2 * 10 ^ 9) (members_of w set) each) in
      omega (arith, most, in_set.few_members)

  each-load : (load : ℕ × Demand → ℕ × ℕ) → ((k : ℕ) → k < length (members_of w set) → IsSmall (load (0 + k, get_or (members_of w set) k nobody))) → AllByRecursion IsSmall (map load (numbered_members w set))
  each-load load small =
      each-map IsSmall (λ (am : ℕ × Demand). IsSmall (load am)) load (λ am h. h) (numbered_members w set)
      (each-numbered (λ (am : ℕ × Demand). IsSmall (load am)) nobody 0 (members_of w set) small)

  by_mode : (m : Mode) (d : ℕ) → AllByRecursion IsSmall (loads_by m w unit d set)
  by_mode mode.Direct d = (omega (arith, all_puts), each-load (λ (am : ℕ × Demand). (h w am.0 d, units unit am.1.gets)) (λ k in'. omega (arith, gets k in')))
  by_mode mode.Relay d = (omega (arith, all_puts), each-load (λ (am : ℕ × Demand). (h w am.0 d, units unit am.1.gets)) (λ k in'. omega (arith, gets k in')))
  by_mode mode.Strong d =
      each-append IsSmall (map (λ (am : ℕ × Demand). (g_var w am.0 d, units unit am.1.gets)) (numbered_members w set)) _
      (each-load (λ (am : ℕ × Demand). (g_var w am.0 d, units unit am.1.gets)) (λ k in'. omega (arith, gets k in')))
      (each-load (λ (am : ℕ × Demand). (w_var w set am.0 d, 2 * units unit am.1.puts)) (λ k in'. omega (arith, puts k in')))

  small_set : (d : ℕ) → AllByRecursion IsSmall (set_loads w unit d set)
  unfolding set_loads
  small_set d = by_mode (rule_of w set).mode d

-- all loads on a centre
pub small-loads : (w : Lists) (unit d : ℕ) → IsComplete w → 1 ≤ unit → unit ≤ 10 ^ 9 → All IsSmall (joint_loads w unit d)
unfolding joint_loads
small-loads w unit d complete some within =
    All-from_recursion IsSmall (joint_loads w unit d)
    (each-stack IsSmall (λ set. map (load_from (first_of w set)) (set_loads w unit d set)) (length w.sets)
    (λ set low. each-map IsSmall IsSmall (load_from (first_of w set)) (λ load h. h) (set_loads w unit d set) (small_set w unit set complete low some within d)))
