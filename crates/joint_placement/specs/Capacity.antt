-- The rows of a joint program that say that the machines of each centre bear its load. A load stands
-- beside the variable that brings it.
use Rattle.std.specs.Prelude.{ℕ, ◌+◌, ◌*◌, ◌^◌, pos, neg_ℤ, Bool, nat_lt, List, ◌∷◌, ◌++◌, map, sum_by}
use Rattle.std.specs.List.{filter, flat_map}
use Rattle.zero_one.specs.declared.rows.Entry.{Entry}
use Rattle.zero_one.specs.declared.rows.Row.{Row}
use Rattle.workload.specs.World.{Lists, rule_of, members_of}
use Rattle.workload.specs.declared.rules.Mode.{Mode}
use Rattle.workload.specs.declared.rules.Mode.TheVariants.{Direct, Relay, Strong}
use Rattle.placement_rows.specs.Centres.{numbered_members}
use Rattle.placement_relay.specs.Reading.{h}
use Rattle.placement_strong.specs.Variables.{g_var, w_var}
use Rattle.machine_text.specs.declared.machines.Machine.{Machine}
use Rattle.machine_text.specs.Machines.{Fleet, machine_of}
use Rattle.joint_placement.specs.Loads.{units}
use Rattle.joint_placement.specs.JointPlans.{sets}
use Rattle.joint_placement.specs.Variables.{first_of, first_digit, places}

-- what the variables of a direct or relay set load on a centre: its replica all puts, and each
-- member that reads there its gets
abbrev pub eventual_loads : Lists → ℕ → ℕ → ℕ → List (ℕ × ℕ)
eventual_loads w unit d set =
    (d, sum_by (λ m. units unit m.puts) (members_of w set)) ∷ map (λ am. (h w am.0 d, units unit am.1.gets)) (numbered_members w set)

-- what those of a strong set load on it: each member's place in its read set and its write set
abbrev pub strong_loads : Lists → ℕ → ℕ → ℕ → List (ℕ × ℕ)
strong_loads w unit d set =
    map (λ am. (g_var w am.0 d, units unit am.1.gets)) (numbered_members w set)
    ++ map (λ am. (w_var w set am.0 d, 2 * units unit am.1.puts)) (numbered_members w set)

abbrev pub loads_by : Mode → Lists → ℕ → ℕ → ℕ → List (ℕ × ℕ)
loads_by Direct w unit d set = eventual_loads w unit d set
loads_by Relay w unit d set = eventual_loads w unit d set
loads_by Strong w unit d set = strong_loads w unit d set

-- what the variables of a set load on a centre
unfoldable pub set_loads : Lists → ℕ → ℕ → ℕ → List (ℕ × ℕ)
set_loads w unit d set = loads_by (rule_of w set).mode w unit d set

-- a load whose variable is so much further up
abbrev pub load_from : ℕ → ℕ × ℕ → ℕ × ℕ
load_from first load = (first + load.0, load.1)

-- what the variables of all sets load on a centre
unfoldable pub joint_loads : Lists → ℕ → ℕ → List (ℕ × ℕ)
joint_loads w unit d = flat_map (λ set. map (load_from (first_of w set)) (set_loads w unit d set)) (sets w)

-- a load takes away, and the digit at a place adds what so many machines bear
abbrev pub load_entry : ℕ × ℕ → Entry
load_entry load = record { var = load.0; coef = neg_ℤ (pos load.1) }

abbrev pub digit_entry : ℕ → Machine → ℕ → Entry
digit_entry first machine j = record { var = first + j; coef = pos (2 ^ j * machine.capacity) }

-- the load is something
abbrev pub is_load : ℕ × ℕ → Bool
is_load load = nat_lt 0 load.1

-- the machines of a centre bear its load
unfoldable pub capacity_row : Lists → Fleet → ℕ → Row
capacity_row w fleet d = record {
  entries = map load_entry (filter is_load (joint_loads w fleet.unit d)) ++ map (digit_entry (first_digit w fleet d) (machine_of fleet d)) (places (machine_of fleet d));
  bound = pos 0;
}
