-- What the variables of a program cost is within the limit.
use Rattle.std.proofs.Common.{ℕ, ◌+◌, ◌*◌, ◌^◌, ◌<◌, ◌≤◌, Bool, true, false, cond, ◌==◌, List, [], ◌∷◌, ◌++◌, map, arith}
use Rattle.std.specs.Prelude.{All, ⊤}
use Rattle.std.specs.List.{flat_map, AllByRecursion}
use Rattle.std.proofs.lemmas.Nat.{mul-le}
use Rattle.std.proofs.lemmas.List.Elements.{All-from_recursion, recursion_from_All}
use Rattle.std.proofs.lemmas.List.Sums.{sum_by-le}
use Rattle.workload.specs.Limits.{IsRuleWithin}
use Rattle.workload.specs.World.{Lists, IsDemandWithin, centre_count, price_of, fare_of, rule_of, members_of}
use Rattle.workload.specs.declared.rules.Demand.{Demand}
use Rattle.workload.specs.declared.rules.Mode.{Mode}
use Rattle.workload.specs.declared.rules.Mode.TheVariants as mode
use Rattle.workload.proofs.Worlds.{price_within, fare_within}
use Rattle.slo_rules.specs.Cost.{stored_cost, get_cost, put_cost, gets_cost, puts_cost}
use Rattle.placement_rows.specs.Centres.{centres}
use Rattle.placement_rows.specs.Providers.{providers, asks_providers, provider_costs}
use Rattle.placement_relay.specs.Reading.{reading_costs}
use Rattle.placement_relay.specs.Direct.{replica_cost}
use Rattle.placement_relay.specs.Relay.{passed_cost, hop_costs}
use Rattle.placement_relay.specs.Programs.{costs_by, mode_costs, set_costs}
use Rattle.placement_relay.specs.Laws.{IsEventualSet}
use Rattle.placement_rows.proofs.Each.{each-append, each-map, each-flat_map, each-weaker}
use Rattle.placement_relay.proofs.Members.{set_within}

abbrev IsSmall : ℕ → Type 0
IsSmall cost = cost < 10 ^ 24

any : (xs : List ℕ) → AllByRecursion (λ (x : ℕ). ⊤) xs
any [] = tt
any (x ∷ xs) = (tt, any xs)

module _ (w : Lists) (set : ℕ) (s : IsEventualSet w set) where
  rule_within : IsRuleWithin (rule_of w set)
  rule_within = (set_within w set s).rule

  each_member : AllByRecursion (IsDemandWithin (centre_count w)) (members_of w set)
  each_member = recursion_from_All (IsDemandWithin (centre_count w)) (members_of w set) (set_within w set s).members

  get_small : (d a : ℕ) → get_cost w (rule_of w set) d a ≤ 10 ^ 9 + 10 ^ 14
  get_small d a = omega (arith, (price_within w s.complete d).get, mul-le (rule_of w set).object (fare_of w d a).transfer (10 ^ 5) (10 ^ 9) rule_within.object (fare_within w s.complete d a).transfer)

  put_small : (a d : ℕ) → put_cost w (rule_of w set) a d ≤ 10 ^ 9 + 10 ^ 14
  put_small a d = omega (arith, (price_within w s.complete d).put, mul-le (rule_of w set).object (fare_of w a d).transfer (10 ^ 5) (10 ^ 9) rule_within.object (fare_within w s.complete a d).transfer)

  gets_small : (m : Demand) → IsDemandWithin (centre_count w) m → (d : ℕ) → gets_cost w (rule_of w set) m d < 10 ^ 24
  gets_small m within d = omega (arith, mul-le m.gets (get_cost w (rule_of w set) d m.dc.0) (10 ^ 9) (10 ^ 9 + 10 ^ 14) within.counts.gets (get_small d m.dc.0))

  puts_small : (m : Demand) → IsDemandWithin (centre_count w) m → (from d : ℕ) → puts_cost w (rule_of w set) m from d ≤ 10 ^ 9 * (10 ^ 9 + 10 ^ 14)
  puts_small m within from d = mul-le m.puts (put_cost w (rule_of w set) from d) (10 ^ 9) (10 ^ 9 + 10 ^ 14) within.counts.puts (put_small from d)

  stored_small : (d : ℕ) → stored_cost w (rule_of w set) d ≤ 10 ^ 12 * 10 ^ 9
  stored_small d = mul-le (rule_of w set).stored (price_of w d).store (10 ^ 12) (10 ^ 9) rule_within.stored (price_within w s.complete d).store

  replica_small : (d : ℕ) → replica_cost w set d < 10 ^ 24
  replica_small d =
      let puts : Demand → ℕ = λ m. puts_cost w (rule_of w set) m m.dc.0 d in
      let each = each-weaker (IsDemandWithin (centre_count w)) (λ m. puts m ≤ 10 ^ 9 * (10 ^ 9 + 10 ^ 14)) (λ m within. puts_small m within m.dc.0 d) (members_of w set) each_member in
      let sum = sum_by-le puts (10 ^ 9 * (10 ^ 9 + 10 ^ 14)) (members_of w set) (All-from_recursion (λ m. puts m ≤ 10 ^ 9 * (10 ^ 9 + 10 ^ 14)) (members_of w set) each) in
      omega (arith, sum, stored_small d, (set_within w set s).few_members)

  each_centre : (c : ℕ → ℕ) → ((d : ℕ) → c d < 10 ^ 24) → AllByRecursion IsSmall (map c (centres w))
  each_centre c small = each-map IsSmall (λ d. ⊤) c (λ d _. small d) (centres w) (any (centres w))

  reading_small : AllByRecursion IsSmall (reading_costs w set)
  reading_small = each-flat_map IsSmall (IsDemandWithin (centre_count w)) (λ m. map (gets_cost w (rule_of w set) m) (centres w)) (λ m within. each_centre (gets_cost w (rule_of w set) m) (gets_small m within)) (members_of w set) each_member

  hops_small : (m : Demand) → IsDemandWithin (centre_count w) m → AllByRecursion IsSmall (hop_costs w set m)
  hops_small m within =
      each-flat_map IsSmall (λ p. ⊤) (λ p. map (passed_cost w set m p) (centres w))
      (λ p _. each_centre (passed_cost w set m p) (λ d. omega (arith, puts_small m within (cond (p == d) m.dc.0 p) d))) (centres w) (any (centres w))

  -- the costs of each mode
  mode_small : (m : Mode) → AllByRecursion IsSmall (costs_by m w set)
  mode_small mode.Direct = each-append IsSmall (map (replica_cost w set) (centres w)) (reading_costs w set) (each_centre (replica_cost w set) replica_small) reading_small
  mode_small mode.Relay =
      let stored = each_centre (stored_cost w (rule_of w set)) (λ d. omega (arith, stored_small d)) in
      each-append IsSmall (map (stored_cost w (rule_of w set)) (centres w) ++ reading_costs w set) (flat_map (hop_costs w set) (members_of w set))
      (each-append IsSmall (map (stored_cost w (rule_of w set)) (centres w)) (reading_costs w set) stored reading_small)
      (each-flat_map IsSmall (IsDemandWithin (centre_count w)) (hop_costs w set) hops_small (members_of w set) each_member)
  mode_small mode.Strong = tt

  nothing_small : (asks : Bool) → AllByRecursion IsSmall (cond asks (map (λ (e : ℕ). 0) (providers w)) [])
  nothing_small true = each-map IsSmall (λ (e : ℕ). ⊤) (λ (e : ℕ). 0) (λ e _. omega arith) (providers w) (any (providers w))
  nothing_small false = tt

  pub set_costs_small : All (λ cost. cost < 10 ^ 24) (set_costs w set)
  set_costs_small =
      All-from_recursion IsSmall (mode_costs w set ++ provider_costs w set)
      (each-append IsSmall (mode_costs w set) (provider_costs w set) (mode_small (rule_of w set).mode) (nothing_small (asks_providers w set)))
