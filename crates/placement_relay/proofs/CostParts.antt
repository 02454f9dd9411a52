-- What a policy costs, and what a choice costs, both as sums over the centres.
use Rattle.std.proofs.Common.{◌≡◌, ℕ, ◌+◌, ◌*◌, ◌<◌, ◌≤◌, Bool, true, false, cond, List, [], ◌++◌, length, drop, get_or, map, refl, sym, ap, ◌∙◌, arith}
use Rattle.std.specs.List.{sum_by, count_by, filter, range_with_len, flat_map}
use Rattle.span_base.specs.declared.dc_set.DcSet.{DcSet}
use Rattle.span_base.specs.DcSet.{has, centres_of}
use Rattle.span_base.specs.declared.policy.Policy.TheVariants.{Direct, Relay}
use Rattle.span_base.specs.declared.policy.Near.{Near}
use Rattle.span_base.specs.declared.policy.Hop.{Hop}
use Rattle.workload.specs.World.{Lists, centre_count, rule_of, members_of}
use Rattle.workload.specs.declared.rules.Demand.{Demand}
use Rattle.slo_rules.specs.Cost.{policy_cost, reading_cost, hops_cost, stored_cost, puts_cost, gets_cost}
use Rattle.zero_one.specs.Rows.{bit_of}
use Rattle.zero_one.specs.Program.{value_of}
use Rattle.placement_rows.specs.Centres.{centres, numbered_members, nobody}
use Rattle.placement_rows.specs.Providers.{asks_providers, provider_costs, providers}
use Rattle.placement_relay.specs.Reading.{h, reading_costs}
use Rattle.placement_relay.specs.Direct.{replica_cost}
use Rattle.placement_relay.specs.Relay.{q, passed_cost, hop_costs, relay_costs}
use Rattle.placement_relay.specs.Programs.{mode_costs, set_costs}
use Rattle.placement_rows.proofs.Sums.{sum_by-agree, sum_by-filter, sum_by-add, sum_by-swap, count_by-filter_swap, filter-range_agree}
use Rattle.placement_rows.proofs.Growing.{cond-le, sum_by-range_le, sum_by-numbered_le}
use Rattle.placement_rows.proofs.Pieces.{value-squares}
use Rattle.placement_rows.proofs.Values.{value-append, value-nothing, value-block, value-blocks}
use Rattle.placement_relay.proofs.Members.{reading-variables}

-- what the gets of a member cost by a choice, and its puts
abbrev pub chosen_gets : Lists → ℕ → List Bool → ℕ × Demand → ℕ
chosen_gets w set x am = sum_by (λ d. cond (bit_of x (h w am.0 d)) (gets_cost w (rule_of w set) am.1 d) 0) (centres w)

abbrev pub chosen_puts : Lists → ℕ → List Bool → ℕ × Demand → ℕ
chosen_puts w set x am = sum_by (λ p. sum_by (λ d. cond (bit_of x (q w set am.0 p d)) (passed_cost w set am.1 p d) 0) (centres w)) (centres w)

-- a direct policy's cost: its replicas', and its gets'
pub direct-cost : (w : Lists) (set : ℕ) (f : ℕ) (replicas : DcSet) (primary : List Near) → centres_of replicas ≡ filter (has replicas) (centres w)
    → policy_cost w set (Direct f replicas primary) ≡ sum_by (λ d. cond (has replicas d) (replica_cost w set d) 0) (centres w) + reading_cost w (rule_of w set) (members_of w set) primary
unfolding policy_cost
direct-cost w set f replicas primary within =
    let r = rule_of w set in
    let members = members_of w set in
    let stored : ℕ → ℕ = stored_cost w r in
    let put : Demand → ℕ → ℕ = λ m d. puts_cost w r m m.dc.0 d in
    let add = sum_by-add stored (λ d. sum_by (λ m. put m d) members) (centres_of replicas) in
    let swap = sum_by-swap put members (centres_of replicas) in
    let kept = ap (sum_by (replica_cost w set)) within in
    let all = sum_by-filter (replica_cost w set) (has replicas) (centres w) in
    omega (arith, add, swap, kept, all)

-- a relay policy's cost: its replicas', its gets' and its hops'
pub relay-cost : (w : Lists) (set : ℕ) (f : ℕ) (replicas : DcSet) (primary : List Near) (hops : List Hop) → centres_of replicas ≡ filter (has replicas) (centres w)
    → policy_cost w set (Relay f replicas primary hops)
    ≡ (sum_by (λ d. cond (has replicas d) (stored_cost w (rule_of w set) d) 0) (centres w) + reading_cost w (rule_of w set) (members_of w set) primary) + sum_by (hops_cost w (rule_of w set) hops) (members_of w set)
unfolding policy_cost
relay-cost w set f replicas primary hops within =
    let stored : ℕ → ℕ = stored_cost w (rule_of w set) in
    omega (arith, ap (sum_by stored) within, sum_by-filter stored (has replicas) (centres w))

module _ (w : Lists) (set : ℕ) (x : List Bool) where
  -- the value of what is kept and read
  pub reading-value : (c : ℕ → ℕ) → value_of (map c (centres w) ++ reading_costs w set) x ≡ sum_by (λ d. cond (bit_of x d) (c d) 0) (centres w) + sum_by (chosen_gets w set x) (numbered_members w set)
  reading-value c =
      let n = centre_count w in
      let rest = reading_costs w set in
      let block = value-block c rest x 0 0 n in
      let blocks = value-blocks (gets_cost w (rule_of w set)) n x 0 (members_of w set) in
      let at : 0 + (0 + n) ≡ n + 0 * n = omega arith in
      let same = sum_by-agree (λ d. cond (bit_of x (0 + d)) (c d) 0) (λ d. cond (bit_of x d) (c d) 0) (λ d. ap (λ e. cond (bit_of x e) (c d) 0) (let e : 0 + d ≡ d = omega arith in e)) (range_with_len 0 n) in
      omega (arith, block, blocks, ap (λ j. value_of rest (drop j x)) at, same)

  -- the value of a relay set's variables
  pub relay-value : value_of (relay_costs w set) x ≡ value_of (map (stored_cost w (rule_of w set)) (centres w) ++ reading_costs w set) x + sum_by (chosen_puts w set x) (numbered_members w set)
  relay-value =
      let n = centre_count w in
      let k = length (members_of w set) in
      let first = map (stored_cost w (rule_of w set)) (centres w) ++ reading_costs w set in
      let rest = flat_map (hop_costs w set) (members_of w set) in
      value-append first rest x
      ∙ ap (λ j. value_of first x + value_of rest (drop j x)) (reading-variables w set (stored_cost w (rule_of w set)))
      ∙ ap (λ v. value_of first x + v) (value-squares (passed_cost w set) n x (n + k * n) (members_of w set))

  -- the providers' variables add nothing to a set's value
  pub value-set : value_of (set_costs w set) x ≡ value_of (mode_costs w set) x
  value-set =
      let costs = mode_costs w set in
      let none : value_of (provider_costs w set) (drop (length costs) x) ≡ 0 = unpaid (asks_providers w set) (drop (length costs) x) in
      value-append costs (provider_costs w set) x
      ∙ ap (λ k. value_of costs x + k) none
      ∙ (let e : value_of costs x + 0 ≡ value_of costs x = omega arith in e)
    where
      unpaid : (asks : Bool) (y : List Bool) → value_of (cond asks (map (λ e. 0) (providers w)) []) y ≡ 0
      unpaid true y = value-nothing (providers w) y
      unpaid false y = refl

-- the near centres that are chosen are as many as the near ones among the replicas
pub count-near : (w : Lists) (replicas : DcSet) (x : List Bool) (near : ℕ → Bool) → centres_of replicas ≡ filter (has replicas) (centres w) → ((d : ℕ) → d < centre_count w → bit_of x d ≡ has replicas d)
    → count_by (bit_of x) (filter near (centres w)) ≡ count_by near (centres_of replicas)
count-near w replicas x near within same =
    count_by-filter_swap (bit_of x) near (centres w)
    ∙ ap (count_by near) (filter-range_agree (bit_of x) (has replicas) 0 (centre_count w) (λ d low high. same d (omega arith)) ∙ sym within)

-- where each bit of a choice that is 1 is 1 in another too, that one has at least its value
module _ (w : Lists) (set : ℕ) (y x : List Bool) where
  pub reading-grows : (c : ℕ → ℕ) → ((d : ℕ) → d < centre_count w → bit_of y d ≡ true → bit_of x d ≡ true)
      → ((a d : ℕ) → a < length (members_of w set) → d < centre_count w → bit_of y (h w a d) ≡ true → bit_of x (h w a d) ≡ true)
      → value_of (map c (centres w) ++ reading_costs w set) y ≤ value_of (map c (centres w) ++ reading_costs w set) x
  reading-grows c kept read =
      let n = centre_count w in
      let replicas = sum_by-range_le (λ d. cond (bit_of y d) (c d) 0) (λ d. cond (bit_of x d) (c d) 0) 0 n (λ d low high. cond-le (bit_of y d) (bit_of x d) (c d) (kept d (omega arith))) in
      let gets = sum_by-numbered_le (chosen_gets w set y) (chosen_gets w set x) nobody 0 (members_of w set)
      (λ k in'.
      let cost : ℕ → ℕ = gets_cost w (rule_of w set) (get_or (members_of w set) k nobody) in
      sum_by-range_le (λ d. cond (bit_of y (h w (0 + k) d)) (cost d) 0) (λ d. cond (bit_of x (h w (0 + k) d)) (cost d) 0) 0 n (λ d low high. cond-le (bit_of y (h w (0 + k) d)) (bit_of x (h w (0 + k) d)) (cost d) (read (0 + k) d (omega arith) (omega arith)))) in
      omega (arith, reading-value w set y c, reading-value w set x c, replicas, gets)

  pub puts-grow : ((a p d : ℕ) → a < length (members_of w set) → p < centre_count w → d < centre_count w → bit_of y (q w set a p d) ≡ true → bit_of x (q w set a p d) ≡ true)
      → sum_by (chosen_puts w set y) (numbered_members w set) ≤ sum_by (chosen_puts w set x) (numbered_members w set)
  puts-grow passed =
      let n = centre_count w in
      sum_by-numbered_le (chosen_puts w set y) (chosen_puts w set x) nobody 0 (members_of w set)
      (λ k in'.
      let cost : ℕ → ℕ → ℕ = passed_cost w set (get_or (members_of w set) k nobody) in
      sum_by-range_le (λ p. sum_by (λ d. cond (bit_of y (q w set (0 + k) p d)) (cost p d) 0) (centres w)) (λ p. sum_by (λ d. cond (bit_of x (q w set (0 + k) p d)) (cost p d) 0) (centres w)) 0 n
      (λ p low high.
      sum_by-range_le (λ d. cond (bit_of y (q w set (0 + k) p d)) (cost p d) 0) (λ d. cond (bit_of x (q w set (0 + k) p d)) (cost p d) 0) 0 n
      (λ d low' high'. cond-le (bit_of y (q w set (0 + k) p d)) (bit_of x (q w set (0 + k) p d)) (cost p d) (passed (0 + k) p d (omega arith) (omega arith) (omega arith)))))
