-- Loops that gather loads.
use Rattle.std.proofs.Common.{◌≡◌, ℕ, ◌+◌, ◌*◌, List, [], ◌∷◌, ◌++◌, map, refl, sym, ap, ◌∙◌}
use Rattle.std.proofs.lemmas.List.{append_assoc}
use Rattle.std.proofs.lemmas.Simd.{map-map}
use Rattle.workload.specs.World.{Lists}
use Rattle.workload.specs.declared.rules.Demand.{Demand}
use Rattle.std.specs.List.{sum_by}
use Rattle.std.proofs.lemmas.List.{map-append}
use Rattle.workload.specs.World.{members_of}
use Rattle.placement_rows.specs.Centres.{numbered_members}
use Rattle.placement_rows.proofs.Loops.{pieces_next}
use Rattle.placement_relay.specs.Reading.{h}
use Rattle.placement_strong.specs.Variables.{g_var, w_var}
use Rattle.joint_placement.specs.Loads.{units}
use Rattle.joint_placement.specs.Capacity.{eventual_loads, strong_loads, load_from}
use Rattle.joint_placement.proofs.Counting.{first-next, first-none}

-- the loads of a direct or relay set, moved up
pub eventual-moved : (w : Lists) (unit d set first : ℕ)
    → map (load_from first) (eventual_loads w unit d set) ≡ (first + d, sum_by (λ m. units unit m.puts) (members_of w set)) ∷ map (λ am. (first + h w am.0 d, units unit am.1.gets)) (numbered_members w set)
eventual-moved w unit d set first =
    ap (λ ls. (first + d, sum_by (λ m. units unit m.puts) (members_of w set)) ∷ ls)
    (map-map (load_from first) (λ (am : ℕ × Demand). (h w am.0 d, units unit am.1.gets)) (numbered_members w set))

-- those of a strong set
pub strong-moved : (w : Lists) (unit d set first : ℕ)
    → map (load_from first) (strong_loads w unit d set)
    ≡ map (λ am. (first + g_var w am.0 d, units unit am.1.gets)) (numbered_members w set) ++ map (λ am. (first + w_var w set am.0 d, 2 * units unit am.1.puts)) (numbered_members w set)
strong-moved w unit d set first =
    let read : ℕ × Demand → ℕ × ℕ = λ am. (g_var w am.0 d, units unit am.1.gets) in
    let write : ℕ × Demand → ℕ × ℕ = λ am. (w_var w set am.0 d, 2 * units unit am.1.puts) in
    let all = numbered_members w set in
    map-append (load_from first) (map read all) (map write all)
    ∙ ap (λ ls. ls ++ map (load_from first) (map write all)) (map-map (load_from first) read all)
    ∙ ap (λ ls. map (λ am. load_from first (read am)) all ++ ls) (map-map (load_from first) write all)

pub ruleset moved = (eventual-moved, strong-moved, append_assoc)

pub ruleset sets = (pieces_next, first-next, first-none)
