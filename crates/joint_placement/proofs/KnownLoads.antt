-- The loads of a set stand beside variables of its own.
use Rattle.std.proofs.Common.{◌≡◌, ℕ, ◌+◌, ◌*◌, ◌<◌, ◌≤◌, Bool, false, cond, List, length, take, get_or, map, refl, sym, ap, ◌∙◌, arith}
use Rattle.std.specs.List.{AllByRecursion}
use Rattle.std.proofs.lemmas.Nat.{mul-le}
use Rattle.std.proofs.lemmas.List.{get_or-take}
use Rattle.workload.specs.World.{Lists, centre_count, rule_of, members_of}
use Rattle.workload.specs.declared.rules.Demand.{Demand}
use Rattle.workload.specs.declared.rules.Mode.{Mode}
use Rattle.workload.specs.declared.rules.Mode.TheVariants as mode
use Rattle.zero_one.specs.Rows.{bit_of}
use Rattle.placement_rows.specs.Centres.{numbered_members, nobody}
use Rattle.placement_rows.proofs.Each.{each-append, each-map, each-numbered}
use Rattle.placement_rows.proofs.Growing.{sum_by-where}
use Rattle.placement_relay.specs.Reading.{h}
use Rattle.placement_relay.specs.Programs as relay
use Rattle.placement_relay.specs.Laws.{IsEventualSet}
use Rattle.placement_relay.proofs.Limits.{reading_variables}
use Rattle.placement_strong.specs.Programs as strong
use Rattle.placement_strong.specs.Variables.{g_var, w_var, strong_costs}
use Rattle.placement_strong.specs.Laws.{IsStrongSet}
use Rattle.placement_strong.proofs.Limits.{set_variables}
use Rattle.placement_strong.proofs.Sizes.{read-room, write-room}
use Rattle.placement.specs.Placement.{IsSet, program_by}
use Rattle.joint_placement.specs.Loads.{units}
use Rattle.joint_placement.specs.Capacity.{eventual_loads, strong_loads, loads_by, set_loads}
use Rattle.joint_placement.specs.Variables.{variables_of}
use Rattle.joint_placement.proofs.Borne.{borne}

-- the variable of a load is one of the first so many
abbrev pub IsBelow : ℕ → ℕ × ℕ → Type 0
IsBelow n load = load.0 < n

-- loads of the first variables see no other bits
pub borne-take : (n : ℕ) (loads : List (ℕ × ℕ)) (x : List Bool) → AllByRecursion (IsBelow n) loads → borne loads (take n x) ≡ borne loads x
borne-take n loads x below =
    sum_by-where (λ (load : ℕ × ℕ). cond (bit_of (take n x) load.0) load.1 0) (λ (load : ℕ × ℕ). cond (bit_of x load.0) load.1 0) (IsBelow n)
    (λ load low. ap (λ b. cond b load.1 0) (get_or-take n x load.0 false low)) loads below

-- a load for each member
each-member : (n : ℕ) (w : Lists) (set : ℕ) (load : ℕ × Demand → ℕ × ℕ) → ((a : ℕ) → a < length (members_of w set) → (m : Demand) → (load (a, m)).0 < n) → AllByRecursion (IsBelow n) (map load (numbered_members w set))
each-member n w set load low =
    each-map (IsBelow n) (λ (am : ℕ × Demand). (load am).0 < n) load (λ am h. h) (numbered_members w set)
    (each-numbered (λ (am : ℕ × Demand). (load am).0 < n) nobody 0 (members_of w set) (λ k in'. low (0 + k) (omega arith) (get_or (members_of w set) k nobody)))

eventual_below : (w : Lists) (unit d set : ℕ) → IsEventualSet w set → d < centre_count w → AllByRecursion (IsBelow (length (relay.set_program w set).costs)) (eventual_loads w unit d set)
unfolding relay.set_program
eventual_below w unit d set s low =
    let n = centre_count w in
    let k = length (members_of w set) in
    let room : n + k * n ≤ length (relay.set_costs w set) = reading_variables w set s in (
      omega arith,
      each-member (length (relay.set_costs w set)) w set (λ (am : ℕ × Demand). (h w am.0 d, units unit am.1.gets))
          (λ a in' m. let block : (a + 1) * n ≤ k * n = mul-le (a + 1) n k n (omega arith) (omega arith) in omega (arith, room, block, low)),
    )

strong_below : (w : Lists) (unit d set : ℕ) → IsStrongSet w set → d < centre_count w → AllByRecursion (IsBelow (length (strong.set_program w set).costs)) (strong_loads w unit d set)
unfolding strong.set_program
strong_below w unit d set s low =
    let all = length (strong.set_costs w set) in
    let more : length (strong_costs w set) ≤ all = omega (arith, set_variables w set) in
    each-append (IsBelow all) (map (λ (am : ℕ × Demand). (g_var w am.0 d, units unit am.1.gets)) (numbered_members w set)) _
    (each-member all w set (λ (am : ℕ × Demand). (g_var w am.0 d, units unit am.1.gets)) (λ a in' m. omega (arith, more, read-room w set a in', low)))
    (each-member all w set (λ (am : ℕ × Demand). (w_var w set am.0 d, 2 * units unit am.1.puts)) (λ a in' m. omega (arith, more, write-room w set a in', low)))

by_mode : (m : Mode) (w : Lists) (unit d set : ℕ) → (rule_of w set).mode ≡ m → IsSet w set → d < centre_count w → AllByRecursion (IsBelow (length (program_by m w set).costs)) (loads_by m w unit d set)
by_mode mode.Direct w unit d set is s low = eventual_below w unit d set (record { complete = s.complete; named = s.named; there = s.there; mode = λ strong. let e : mode.Direct ≡ mode.Strong = sym is ∙ strong in cc }) low
by_mode mode.Relay w unit d set is s low = eventual_below w unit d set (record { complete = s.complete; named = s.named; there = s.there; mode = λ strong. let e : mode.Relay ≡ mode.Strong = sym is ∙ strong in cc }) low
by_mode mode.Strong w unit d set is s low = strong_below w unit d set (record { complete = s.complete; there = s.there; mode = is }) low

pub known_loads : (w : Lists) (unit d set : ℕ) → IsSet w set → d < centre_count w → AllByRecursion (IsBelow (variables_of w set)) (set_loads w unit d set)
unfolding variables_of set_loads
known_loads w unit d set s low = by_mode (rule_of w set).mode w unit d set refl s low
