-- Every choice that meets the program is an allowed policy, at no more than the choice's value: the
-- policy's own choice has no bit that the choice lacks.
use Rattle.std.proofs.Common.{◌≡◌, ℕ, ◌<◌, ◌≤◌, Bool, true, List, ◌++◌, length, refl, sym, ap, subst, ◌∙◌, arith}
use Rattle.std.specs.Prelude.{◌≢◌}
use Rattle.std.specs.List.{AllPairs, AllByRecursion}
use Rattle.std.proofs.lemmas.List.{append_assoc}
use Rattle.std.proofs.lemmas.List.Elements.{recursion_from_All}
use Rattle.span_base.specs.DcSet.{centres_of}
use Rattle.span_base.specs.declared.policy.Policy.{Policy}
use Rattle.span_base.specs.declared.policy.Policy.TheVariants.{Direct, Relay}
use Rattle.workload.specs.World.{Lists, centre_count, rule_of, members_of}
use Rattle.workload.specs.declared.rules.Mode.{Mode}
use Rattle.workload.specs.declared.rules.Mode.TheVariants as mode
use Rattle.slo_rules.specs.Rules.{IsAllowed}
use Rattle.slo_rules.specs.Cost.{policy_cost, stored_cost}
use Rattle.zero_one.specs.Rows.{Meets, bit_of}
use Rattle.zero_one.specs.Program.{IsFeasible, value_of}
use Rattle.placement_rows.specs.Providers.{provider_bits, provider_rows}
use Rattle.placement_relay.specs.Reading.{h, reading_rows}
use Rattle.placement_relay.specs.Relay.{hop_rows}
use Rattle.placement_relay.specs.Direct.{replica_cost}
use Rattle.placement_relay.specs.Programs.{costs_by, rows_by, mode_costs, mode_rows, set_costs, set_program, keeping}
use Rattle.placement_relay.specs.Placed.{placed, decoded, decoded_by, reading_bits, hop_bits, chosen_replicas, chosen_primaries, chosen_hops}
use Rattle.placement_relay.specs.Laws.{IsDecoded}
use Rattle.placement_rows.proofs.Each.{each-split}
use Rattle.placement_relay.proofs.Allowed.{IsDirect, IsRelay, direct-allowed, relay-allowed}
use Rattle.placement_relay.proofs.MetRows.{Reads, reading-back, direct-back}
use Rattle.placement_relay.proofs.MetHops.{hops-back}
use Rattle.placement_relay.proofs.CostParts.{reading-grows, puts-grow, relay-value, value-set}
use Rattle.placement_relay.proofs.ReadingBits.{bit-replica, bit-primary}
use Rattle.placement_relay.proofs.HopBits.{bit-hop}
use Rattle.placement_relay.proofs.PlacedReading.{same_long}
use Rattle.placement_relay.proofs.PlacedLaws.{placed-direct, placed-relay}
use Rattle.placement_relay.proofs.DecodedReading.{has-chosen, primary-read, serving-chosen, written-chosen}
use Rattle.placement_relay.proofs.DecodedHops.{due-chosen, passing-chosen, writing-chosen, hop-chosen}

module _ (w : Lists) (set : ℕ) (x : List Bool) (few : centre_count w ≤ 16) (some : 1 ≤ length (members_of w set)) where
  -- the first bits of the choice of what is chosen are bits of the choice
  kept-back : (tail : List Bool) (d : ℕ) → d < centre_count w → bit_of (reading_bits w (chosen_replicas w x) (chosen_primaries w set x) ++ tail) d ≡ true → bit_of x d ≡ true
  kept-back tail d low is = sym (has-chosen w set x few d low) ∙ sym (bit-replica w (chosen_replicas w x) (chosen_primaries w set x) tail d low) ∙ is

  near-back : Reads w set x → length (members_of w set) ≡ length (chosen_primaries w set x) → (tail : List Bool) (a d : ℕ) → a < length (members_of w set) → d < centre_count w
      → bit_of (reading_bits w (chosen_replicas w x) (chosen_primaries w set x) ++ tail) (h w a d) ≡ true → bit_of x (h w a d) ≡ true
  near-back reads same tail a d in' low is =
      primary-read w set x few reads a d in' (sym (bit-primary w (chosen_replicas w x) (chosen_primaries w set x) tail a d (omega (arith, same)) low) ∙ is)

  module _ (met : AllByRecursion (Meets x) (provider_rows w set (length (mode_costs w set)) (keeping w))) where
    direct-decoded : (rule_of w set).mode ≡ mode.Direct → AllByRecursion (Meets x) (rows_by mode.Direct w set)
        → IsAllowed w set (Direct (rule_of w set).f (chosen_replicas w x) (chosen_primaries w set x)) × (policy_cost w set (Direct (rule_of w set).f (chosen_replicas w x) (chosen_primaries w set x)) ≤ value_of (set_costs w set) x)
    unfolding placed
    direct-decoded is rows =
        let replicas = chosen_replicas w x in
        let primary = chosen_primaries w set x in
        let f = (rule_of w set).f in
        let c = direct-back w set x rows in
        let direct : IsDirect w set f replicas primary = record { failures = refl; serving = serving-chosen w set x few c.0 some met; writing = written-chosen w set x few c.1 } in
        let end = provider_bits w set (centres_of replicas) in
        let y = reading_bits w replicas primary ++ end in
        let there = placed-direct w set f replicas primary is direct in
        let grows = reading-grows w set y x (replica_cost w set) (kept-back end) (near-back c.0 (same_long w set replicas primary direct.serving) end) in (
          direct-allowed w set replicas primary f is direct,
          omega (arith, there.value, value-set w set y, value-set w set x, ap (λ m. value_of (costs_by m w set) y) is, ap (λ m. value_of (costs_by m w set) x) is, grows),
        )

    relay-decoded : AllPairs (λ a b. a.dc.0 ≢ b.dc.0) (members_of w set) → (rule_of w set).mode ≡ mode.Relay → AllByRecursion (Meets x) (rows_by mode.Relay w set)
        → IsAllowed w set (Relay (rule_of w set).f (chosen_replicas w x) (chosen_primaries w set x) (chosen_hops w set x))
        × (policy_cost w set (Relay (rule_of w set).f (chosen_replicas w x) (chosen_primaries w set x) (chosen_hops w set x)) ≤ value_of (set_costs w set) x)
    unfolding placed
    relay-decoded apart is rows =
        let replicas = chosen_replicas w x in
        let primary = chosen_primaries w set x in
        let hops = chosen_hops w set x in
        let f = (rule_of w set).f in
        let parts = each-split (Meets x) (reading_rows w set) (hop_rows w set) rows in
        let reads = reading-back w set x parts.0 in
        let writes = hops-back w set x parts.1 in
        let relay : IsRelay w set f replicas primary hops = record {
          failures = refl;
          serving = serving-chosen w set x few reads some met;
          due = due-chosen w set x few;
          passing = passing-chosen w set x few writes;
          writing = writing-chosen w set x few writes;
        } in
        let end = provider_bits w set (centres_of replicas) in
        let writing = hop_bits w set hops in
        let reading = reading_bits w replicas primary in
        let y = (reading ++ writing) ++ end in
        let whole : y ≡ reading ++ (writing ++ end) = append_assoc reading writing end in
        let same = same_long w set replicas primary relay.serving in
        let there = placed-relay w set f replicas primary hops is apart relay in
        let grows = reading-grows w set y x (stored_cost w (rule_of w set)) (λ d low one. kept-back (writing ++ end) d low (sym (ap (λ z. bit_of z d) whole) ∙ one))
        (λ a d in' low one. near-back reads same (writing ++ end) a d in' low (sym (ap (λ z. bit_of z (h w a d)) whole) ∙ one)) in
        let puts = puts-grow w set y x (λ a p d in' low low' one. hop-chosen w set x few writes apart a p d in' (sym (bit-hop w set replicas primary hops end (sym same) a p d in' low low') ∙ one)) in (
          relay-allowed w set replicas primary hops f is relay,
          omega (
            arith,
            there.value,
            value-set w set y,
            value-set w set x,
            ap (λ m. value_of (costs_by m w set) y) is,
            ap (λ m. value_of (costs_by m w set) x) is,
            relay-value w set y,
            relay-value w set x,
            grows,
            puts,
          ),
        )

-- the policy that a choice is, by the set's mode
pub decoded-by : (w : Lists) (set : ℕ) (x : List Bool) (m : Mode) → (rule_of w set).mode ≡ m → decoded w set x ≡ decoded_by m w set x
unfolding decoded
decoded-by w set x m is = ap (λ m. decoded_by m w set x) is

pub feasible-decoded : (w : Lists) (set : ℕ) → centre_count w ≤ 16 → 1 ≤ length (members_of w set) → AllPairs (λ a b. a.dc.0 ≢ b.dc.0) (members_of w set) → (x : List Bool) → IsFeasible (set_program w set) x
    → (m : Mode) → (rule_of w set).mode ≡ m → m ≢ mode.Strong → IsDecoded w set x
unfolding set_program
feasible-decoded w set few some apart x feasible m is weak =
    let met = each-split (Meets x) (mode_rows w set) (provider_rows w set (length (mode_costs w set)) (keeping w)) (recursion_from_All (Meets x) (mode_rows w set ++ provider_rows w set (length (mode_costs w set)) (keeping w)) feasible.met) in
    let parts = by_mode m is weak (subst (λ m. AllByRecursion (Meets x) (rows_by m w set)) is met.0) met.1 in
    let policy = decoded-by w set x m is in
    record { allowed = subst (IsAllowed w set) (sym policy) parts.0; cost = subst (λ (q : Policy). policy_cost w set q ≤ value_of (set_costs w set) x) (sym policy) parts.1 }
  where
    by_mode : (m : Mode) → (rule_of w set).mode ≡ m → m ≢ mode.Strong → AllByRecursion (Meets x) (rows_by m w set) → AllByRecursion (Meets x) (provider_rows w set (length (mode_costs w set)) (keeping w))
        → IsAllowed w set (decoded_by m w set x) × (policy_cost w set (decoded_by m w set x) ≤ value_of (set_costs w set) x)
    by_mode mode.Direct is weak rows met = direct-decoded w set x few some met is rows
    by_mode mode.Relay is weak rows met = relay-decoded w set x few some met apart is rows
    by_mode mode.Strong is weak rows met = absurd (weak refl)
