-- Every allowed policy is a choice that meets the program, at the policy's cost.
use Rattle.std.proofs.Common.{◌≡◌, ℕ, ◌+◌, ◌*◌, ◌<◌, Bool, true, false, cond, ◌==◌, List, [], ◌++◌, length, get_or, map, refl, sym, ap, subst, ◌∙◌, arith}
use Rattle.std.specs.Prelude.{◌≢◌}
use Rattle.std.proofs.Math.Nat.{mul_assoc}
use Rattle.std.specs.List.{sum_by, AllPairs, AllByRecursion, list_any}
use Rattle.std.proofs.lemmas.List.{append_assoc, length-append, length-map, get_or-append-add, get_or-map}
use Rattle.std.proofs.lemmas.List.Elements.{All-from_recursion}
use Rattle.span_base.specs.declared.dc_set.DcSet.{DcSet}
use Rattle.span_base.specs.DcSet.{has, centres_of}
use Rattle.span_base.specs.declared.policy.Policy.TheVariants.{Direct, Relay}
use Rattle.span_base.specs.declared.policy.Near.{Near}
use Rattle.span_base.specs.declared.policy.Hop.{Hop}
use Rattle.workload.specs.World.{Lists, centre_count, rule_of, members_of}
use Rattle.workload.specs.declared.rules.Mode.TheVariants as mode
use Rattle.slo_rules.specs.Rules.{same_provider}
use Rattle.slo_rules.specs.Cost.{policy_cost, stored_cost}
use Rattle.zero_one.specs.Rows.{Meets, bit_of}
use Rattle.zero_one.specs.Program.{IsFeasible, value_of}
use Rattle.placement_rows.specs.Centres.{centres, numbered_members, nobody}
use Rattle.placement_rows.specs.Providers.{asks_providers, providers, provider_costs, provider_rows, provider_bits}
use Rattle.placement_relay.specs.Reading.{h, reading_costs}
use Rattle.placement_relay.specs.Relay.{q, hop_rows}
use Rattle.placement_relay.specs.Direct.{replica_cost}
use Rattle.placement_relay.specs.Programs.{costs_by, rows_by, mode_costs, mode_rows, set_program, keeping}
use Rattle.placement_relay.specs.Placed.{placed, reading_bits, has_hop, hop_bits}
use Rattle.placement_relay.specs.Laws.{IsPlaced}
use Rattle.placement_rows.proofs.Each.{each-append}
use Rattle.placement_rows.proofs.ProviderRows.{Keeps, centres-keep, no-rows, provider-rows-from}
use Rattle.placement_relay.proofs.Members.{direct-count, relay-count}
use Rattle.placement_relay.proofs.Serving.{IsServing, below_count}
use Rattle.placement_relay.proofs.Allowed.{IsDirect, IsRelay}
use Rattle.placement_relay.proofs.MetRows.{reading-from, direct-from as direct-met}
use Rattle.placement_relay.proofs.MetHops.{hops-from}
use Rattle.placement_relay.proofs.CostParts.{chosen_puts, direct-cost, relay-cost, relay-value, value-set}
use Rattle.placement_relay.proofs.ReadingBits.{nowhere, long-reading, bit-replica, bit-primary}
use Rattle.placement_relay.proofs.HopBits.{long-hops, bit-hop}
use Rattle.placement_relay.proofs.PlacedReading.{same_long, reads-placed, written-placed, reading-placed}
use Rattle.placement_relay.proofs.PlacedHops.{writes-placed, hops-placed}

-- the bits of providers are as many as their costs
long-providers : (w : Lists) (ds : List ℕ) (asks : Bool) → ◌≡◌ {A = ℕ} (length {A = Bool} (cond asks (map (λ e. list_any (same_provider w e) ds) (providers w)) [])) (length {A = ℕ} (cond asks (map (λ (e : ℕ). 0) (providers w)) []))
long-providers w ds true = let nothing : ℕ → ℕ = λ e. 0 in length-map (providers w) (λ e. list_any (same_provider w e) ds) ∙ sym (length-map (providers w) nothing)
long-providers w ds false = refl

-- the bits of the mode's variables, and those of the providers, meet the program where the former
-- meet the mode's rows
module _ (w : Lists) (set : ℕ) (replicas : DcSet) (primary : List Near) (serving : IsServing w set replicas primary) (bits : List Bool) (long : length bits ≡ length (mode_costs w set)) where
  abbrev end : List Bool
  end = provider_bits w set (centres_of replicas)

  bit-provider_at : (asks : Bool) (j : ℕ) → j < length (providers w) → get_or (cond asks (map (λ e. list_any (same_provider w e) (centres_of replicas)) (providers w)) []) j false ≡ cond asks (list_any (same_provider w (get_or (providers w) j 0)) (centres_of replicas)) false
  bit-provider_at true j in' = get_or-map (λ e. list_any (same_provider w e) (centres_of replicas)) (providers w) j 0 false in'
  bit-provider_at false j in' = refl

  -- the bit of a provider
  bit-provider : (j : ℕ) → j < length (providers w) → bit_of (bits ++ end) (length (mode_costs w set) + j) ≡ cond (asks_providers w set) (list_any (same_provider w (get_or (providers w) j 0)) (centres_of replicas)) false
  bit-provider j in' =
      ap (λ k. get_or (bits ++ end) (k + j) false) (sym long)
      ∙ get_or-append-add bits end j false
      ∙ bit-provider_at (asks_providers w set) j in'

  module _ (kept : (d : ℕ) → d < centre_count w → bit_of (bits ++ end) d ≡ has replicas d) where
    keeps : Keeps (bits ++ end) (keeping w) (centres_of replicas)
    keeps p = centres-keep w (bits ++ end) (has replicas) kept p ∙ ap (list_any p) (sym serving.within)

    providers-met : (asks : Bool) → asks_providers w set ≡ asks → AllByRecursion (Meets (bits ++ end)) (provider_rows w set (length (mode_costs w set)) (keeping w))
    providers-met false none = subst (λ rows. AllByRecursion (Meets (bits ++ end)) rows) (sym (no-rows w set (length (mode_costs w set)) (keeping w) none)) tt
    providers-met true some =
        provider-rows-from w set (bits ++ end) (length (mode_costs w set)) (keeping w) (centres_of replicas) keeps (below_count w replicas serving.within)
        (λ j in'. bit-provider j in' ∙ ap (λ b. cond b (list_any (same_provider w (get_or (providers w) j 0)) (centres_of replicas)) false) some) serving.apart (asks_providers w set)

    feasible : AllByRecursion (Meets (bits ++ end)) (mode_rows w set) → IsFeasible (set_program w set) (bits ++ end)
    unfolding set_program
    feasible met = record {
      bits = length-append bits end
          ∙ ap (λ k. k + length end) long
          ∙ ap (λ k. length (mode_costs w set) + k) (long-providers w (centres_of replicas) (asks_providers w set))
          ∙ sym (length-append (mode_costs w set) (provider_costs w set));
      met = All-from_recursion (Meets (bits ++ end)) (mode_rows w set ++ provider_rows w set (length (mode_costs w set)) (keeping w))
          (each-append (Meets (bits ++ end)) (mode_rows w set) _ met (providers-met (asks_providers w set) refl));
    }

module _ (w : Lists) (set : ℕ) (f : ℕ) (replicas : DcSet) (primary : List Near) (is : (rule_of w set).mode ≡ mode.Direct) where
  pub placed-direct : IsDirect w set f replicas primary → IsPlaced w set (Direct f replicas primary)
  unfolding placed
  placed-direct direct =
      let n = centre_count w in
      let end = provider_bits w set (centres_of replicas) in
      let bits = reading_bits w replicas primary in
      let x = bits ++ end in
      let same = same_long w set replicas primary direct.serving in
      let kept : (d : ℕ) → d < n → bit_of x d ≡ has replicas d = bit-replica w replicas primary end in
      let near : (a d : ℕ) → a < length (members_of w set) → d < n → bit_of x (h w a d) ≡ ((get_or primary a nowhere).at.0 == d) = λ a d in' low. bit-primary w replicas primary end a d (omega (arith, same)) low in
      let long : length bits ≡ length (mode_costs w set) = omega (arith, ap (λ k. k * n) same, long-reading w replicas primary [], direct-count w set is) in
      record {
        feasible = feasible w set replicas primary direct.serving bits long kept
            (subst (λ m. AllByRecursion (Meets x) (rows_by m w set)) (sym is)
            (direct-met w set x (reads-placed w set replicas primary direct.serving x kept near) (written-placed w set replicas primary direct.serving x kept near direct.writing)));
        value = value-set w set x
            ∙ ap (λ m. value_of (costs_by m w set) x) is
            ∙ reading-placed w set replicas primary direct.serving x kept near (replica_cost w set)
            ∙ sym (direct-cost w set f replicas primary direct.serving.within);
      }

module _ (w : Lists) (set : ℕ) (f : ℕ) (replicas : DcSet) (primary : List Near) (hops : List Hop) (is : (rule_of w set).mode ≡ mode.Relay) (apart : AllPairs (λ a b. a.dc.0 ≢ b.dc.0) (members_of w set)) where
  pub placed-relay : IsRelay w set f replicas primary hops → IsPlaced w set (Relay f replicas primary hops)
  unfolding placed
  placed-relay relay =
      let n = centre_count w in
      let k = length (members_of w set) in
      let end = provider_bits w set (centres_of replicas) in
      let reading = reading_bits w replicas primary in
      let writing = hop_bits w set hops in
      let bits = reading ++ writing in
      let x = bits ++ end in
      let same = same_long w set replicas primary relay.serving in
      let whole : x ≡ reading ++ (writing ++ end) = append_assoc reading writing end in
      let kept : (d : ℕ) → d < n → bit_of x d ≡ has replicas d = λ d low. ap (λ y. bit_of y d) whole ∙ bit-replica w replicas primary (writing ++ end) d low in
      let near : (a d : ℕ) → a < length (members_of w set) → d < n → bit_of x (h w a d) ≡ ((get_or primary a nowhere).at.0 == d) =
      λ a d in' low. ap (λ y. bit_of y (h w a d)) whole ∙ bit-primary w replicas primary (writing ++ end) a d (omega (arith, same)) low in
      let hop : (a p d : ℕ) → a < length (members_of w set) → p < n → d < n → bit_of x (q w set a p d) ≡ has_hop hops (get_or (members_of w set) a nobody).dc.0 p d = bit-hop w set replicas primary hops end (sym same) in
      let long : length bits ≡ length (mode_costs w set) =
      omega (arith, length-append reading writing, ap (λ j. j * n) same, long-reading w replicas primary [], long-hops w set replicas primary hops [], relay-count w set is, mul_assoc k n n) in
      let put = hops-placed w set f replicas primary hops relay apart x kept hop in
      let kept_value = reading-placed w set replicas primary relay.serving x kept near (stored_cost w (rule_of w set)) in
      record {
        feasible = feasible w set replicas primary relay.serving bits long kept
            (subst (λ m. AllByRecursion (Meets x) (rows_by m w set)) (sym is)
            (each-append (Meets x) _ (hop_rows w set)
            (reading-from w set x (reads-placed w set replicas primary relay.serving x kept near))
            (hops-from w set x (writes-placed w set f replicas primary hops relay apart x kept hop))));
        value = value-set w set x
            ∙ ap (λ m. value_of (costs_by m w set) x) is
            ∙ relay-value w set x
            ∙ (let e : value_of (map (stored_cost w (rule_of w set)) (centres w) ++ reading_costs w set) x + sum_by (chosen_puts w set x) (numbered_members w set) ≡ policy_cost w set (Relay f replicas primary hops) = omega (arith, put, kept_value, relay-cost w set f replicas primary hops relay.serving.within) in e);
      }
