-- The members of a set, and how many variables its program has for them.
use Rattle.std.proofs.Common.{◌≡◌, ℕ, ◌+◌, ◌*◌, ◌<◌, ◌≤◌, ◌++◌, length, map, ap, ◌∙◌, arith}
use Rattle.std.proofs.Math.Nat.{mul_assoc}
use Rattle.std.specs.List.{flat_map}
use Rattle.std.proofs.lemmas.Nat.{mul-le}
use Rattle.std.proofs.lemmas.List.{length-append}
use Rattle.std.proofs.lemmas.List.FromFn.{length-map-range_with_len}
use Rattle.workload.specs.Load.{no_set}
use Rattle.workload.specs.World.{Lists, IsSetWithin, centre_count, rule_of, members_of, set_of}
use Rattle.workload.specs.declared.rules.Mode.TheVariants as mode
use Rattle.slo_rules.specs.Cost.{stored_cost, gets_cost}
use Rattle.placement_rows.specs.Centres.{centres}
use Rattle.placement_relay.specs.Reading.{reading_costs}
use Rattle.placement_relay.specs.Direct.{replica_cost, direct_costs}
use Rattle.placement_relay.specs.Relay.{q, passed_cost, hop_costs, relay_costs}
use Rattle.placement_relay.specs.Programs.{costs_by, mode_costs}
use Rattle.placement_relay.specs.Laws.{IsEventualSet}
use Rattle.placement_rows.proofs.Sums.{length-blocks}
use Rattle.placement_rows.proofs.Pieces.{length-pieces, length-square}

pub set_within : (w : Lists) (set : ℕ) → IsEventualSet w set → IsSetWithin (centre_count w) (set_of w set)
set_within w set s = s.complete.sets set no_set s.there

-- a variable for each centre, and one for each member and centre
pub reading-variables : (w : Lists) (set : ℕ) (c : ℕ → ℕ) → length (map c (centres w) ++ reading_costs w set) ≡ centre_count w + length (members_of w set) * centre_count w
reading-variables w set c =
    omega (
      arith,
      length-append (map c (centres w)) (reading_costs w set),
      length-map-range_with_len c 0 (centre_count w),
      length-blocks (gets_cost w (rule_of w set)) (centre_count w) (members_of w set),
    )

pub direct-variables : (w : Lists) (set : ℕ) → length (direct_costs w set) ≡ centre_count w + length (members_of w set) * centre_count w
direct-variables w set = reading-variables w set (replica_cost w set)

-- and in a relay set one more for each member and two centres
pub relay-variables : (w : Lists) (set : ℕ) → length (relay_costs w set) ≡ centre_count w + length (members_of w set) * centre_count w + length (members_of w set) * centre_count w * centre_count w
relay-variables w set =
    let n = centre_count w in
    let k = length (members_of w set) in
    omega (
      arith,
      length-append (map (stored_cost w (rule_of w set)) (centres w) ++ reading_costs w set) (flat_map (hop_costs w set) (members_of w set)),
      reading-variables w set (stored_cost w (rule_of w set)),
      length-pieces (hop_costs w set) (n * n) (λ m. length-square (passed_cost w set m) n) (members_of w set),
      mul_assoc k n n,
    )

-- the variables of the mode are so many
pub direct-count : (w : Lists) (set : ℕ) → (rule_of w set).mode ≡ mode.Direct → length (mode_costs w set) ≡ centre_count w + length (members_of w set) * centre_count w
direct-count w set is = ap (λ m. length (costs_by m w set)) is ∙ direct-variables w set

pub relay-count : (w : Lists) (set : ℕ) → (rule_of w set).mode ≡ mode.Relay
    → length (mode_costs w set) ≡ centre_count w + length (members_of w set) * centre_count w + length (members_of w set) * centre_count w * centre_count w
relay-count w set is = ap (λ m. length (costs_by m w set)) is ∙ relay-variables w set

-- the variable of a hop is one of them
pub hop-low : (w : Lists) (set a p d : ℕ) → a < length (members_of w set) → p < centre_count w → d < centre_count w
    → q w set a p d < centre_count w + length (members_of w set) * centre_count w + length (members_of w set) * centre_count w * centre_count w
hop-low w set a p d in' low low' =
    let n = centre_count w in
    let k = length (members_of w set) in
    let line : (p + 1) * n ≤ n * n = mul-le (p + 1) n n n (omega arith) (omega arith) in
    let square : (a + 1) * (n * n) ≤ k * (n * n) = mul-le (a + 1) (n * n) k (n * n) (omega arith) (omega arith) in
    omega (arith, line, square, low', mul_assoc a n n, mul_assoc k n n)
