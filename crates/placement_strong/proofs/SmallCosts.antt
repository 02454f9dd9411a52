-- What the variables of a strong set cost keeps the limit of a program's costs.
use Rattle.std.proofs.Common.{ℕ, zero, suc, ◌+◌, ◌*◌, ◌^◌, ◌<◌, ◌≤◌, Bool, true, false, cond, List, [], ◌∷◌, ◌++◌, length, map, replicate, arith}
use Rattle.std.specs.Prelude.{All, ⊤}
use Rattle.std.specs.List.{AllByRecursion}
use Rattle.std.proofs.lemmas.Nat.{mul-le}
use Rattle.std.proofs.lemmas.List.Elements.{All-from_recursion}
use Rattle.workload.specs.Limits.{IsRuleWithin}
use Rattle.workload.specs.World.{Lists, IsDemandWithin, centre_count, price_of, fare_of, rule_of}
use Rattle.workload.specs.declared.rules.Demand.{Demand}
use Rattle.workload.proofs.Worlds.{price_within, fare_within}
use Rattle.slo_rules.specs.Cost.{stored_cost, get_cost, put_cost, gets_cost, quorum_puts_cost}
use Rattle.placement_rows.specs.Centres.{centres, nobody}
use Rattle.placement_rows.specs.Providers.{providers, asks_providers}
use Rattle.placement_rows.proofs.Each.{each-append, each-map, each-flat_map, each-range}
use Rattle.placement_strong.specs.Variables.{member_count, members, member_at, pairs, storing_costs, reading_costs, writing_costs, meeting_costs, strong_costs}
use Rattle.placement_strong.specs.Programs.{set_costs}
use Rattle.placement_strong.specs.Laws.{IsStrongSet}
use Rattle.placement_strong.proofs.StrongSets.{set_within}

Small : ℕ → Type 0
Small cost = cost < 10 ^ 24

zeros_small : (n : ℕ) → AllByRecursion Small (replicate n 0)
unfolding Small
zeros_small zero = tt
zeros_small (suc n) = (omega arith, zeros_small n)

nothing_small : {X : Type 0} (xs : List X) → AllByRecursion Small (map (λ (x : X). 0) xs)
unfolding Small
nothing_small [] = tt
nothing_small (x ∷ xs) = (omega arith, nothing_small xs)

providers_small : (w : Lists) (asks : Bool) → AllByRecursion Small (cond asks (map (λ (e : ℕ). 0) (providers w)) [])
providers_small w true = nothing_small (providers w)
providers_small w false = tt

module _ (w : Lists) (set : ℕ) (s : IsStrongSet w set) where
  rule_within : IsRuleWithin (rule_of w set)
  rule_within = (set_within w set s).rule

  get_small : (d a : ℕ) → get_cost w (rule_of w set) d a ≤ 10 ^ 9 + 10 ^ 14
  get_small d a = omega (arith, (price_within w s.complete d).get, mul-le (rule_of w set).object (fare_of w d a).transfer (10 ^ 5) (10 ^ 9) rule_within.object (fare_within w s.complete d a).transfer)

  put_small : (a d : ℕ) → put_cost w (rule_of w set) a d ≤ 10 ^ 9 + 10 ^ 14
  put_small a d = omega (arith, (price_within w s.complete d).put, mul-le (rule_of w set).object (fare_of w a d).transfer (10 ^ 5) (10 ^ 9) rule_within.object (fare_within w s.complete a d).transfer)

  stored_small : (d : ℕ) → Small (stored_cost w (rule_of w set) d)
  unfolding Small
  stored_small d = omega (arith, mul-le (rule_of w set).stored (price_of w d).store (10 ^ 12) (10 ^ 9) rule_within.stored (price_within w s.complete d).store)

  gets_small : (m : Demand) → IsDemandWithin (centre_count w) m → (d : ℕ) → Small (gets_cost w (rule_of w set) m d)
  unfolding Small
  gets_small m within d = omega (arith, mul-le m.gets (get_cost w (rule_of w set) d m.dc.0) (10 ^ 9) (10 ^ 9 + 10 ^ 14) within.counts.gets (get_small d m.dc.0))

  puts_small : (m : Demand) → IsDemandWithin (centre_count w) m → (d : ℕ) → Small (quorum_puts_cost w (rule_of w set) m d)
  unfolding Small
  puts_small m within d =
      let one = (price_of w d).get + put_cost w (rule_of w set) m.dc.0 d in
      let low : one ≤ 2 * 10 ^ 9 + 10 ^ 14 = omega (arith, (price_within w s.complete d).get, put_small m.dc.0 d) in
      omega (arith, mul-le m.puts one (10 ^ 9) (2 * 10 ^ 9 + 10 ^ 14) within.counts.puts low)

  member_within : (a : ℕ) → a < member_count w set → IsDemandWithin (centre_count w) (member_at w set a)
  member_within a low = (set_within w set s).members a nobody low

  -- all costs are small
  pub set_costs_small : All (λ cost. cost < 10 ^ 24) (set_costs w set)
  unfolding Small
  set_costs_small =
      let r = rule_of w set in
      let n = centre_count w in
      let k = member_count w set in
      let low : AllByRecursion (λ a. a < k) (members w set) = each-range (λ a. a < k) 0 k (λ a from to. omega arith) in
      let any : AllByRecursion (λ (d : ℕ). ⊤) (centres w) = each-range (λ d. ⊤) 0 n (λ d from to. tt) in
      let one = each-map Small (λ (d : ℕ). ⊤) (stored_cost w r) (λ d _. stored_small d) (centres w) any in
      let two = each-flat_map Small (λ a. a < k) (λ a. map (gets_cost w r (member_at w set a)) (centres w))
      (λ a in'. each-map Small (λ (d : ℕ). ⊤) (gets_cost w r (member_at w set a)) (λ d _. gets_small (member_at w set a) (member_within a in') d) (centres w) any) (members w set) low in
      let three = each-flat_map Small (λ a. a < k) (λ a. map (quorum_puts_cost w r (member_at w set a)) (centres w))
      (λ a in'. each-map Small (λ (d : ℕ). ⊤) (quorum_puts_cost w r (member_at w set a)) (λ d _. puts_small (member_at w set a) (member_within a in') d) (centres w) any) (members w set) low in
      let four = zeros_small ((k * k + length (pairs k)) * n) in
      All-from_recursion Small (set_costs w set)
      (each-append Small (strong_costs w set) _
      (each-append Small ((storing_costs w set ++ reading_costs w set) ++ writing_costs w set) (meeting_costs w set)
      (each-append Small (storing_costs w set ++ reading_costs w set) (writing_costs w set)
      (each-append Small (storing_costs w set) (reading_costs w set) one two) three) four)
      (providers_small w (asks_providers w set)))
