-- What a choice keeps and reads that meets the rows on reading is as the rules ask.
use Rattle.std.proofs.Common.{◌≡◌, ℕ, ◌+◌, ◌<◌, ◌≤◌, Bool, true, ◌==◌, List, [], ◌∷◌, length, get_or, refl, sym, ap, subst, ◌∙◌, arith}
use Rattle.std.specs.List.{count_by, filter, find, list_any, AllByRecursion}
use Rattle.std.proofs.lemmas.Bool.{eqb-true}
use Rattle.std.proofs.lemmas.List.{get_or-map}
use Rattle.std.proofs.lemmas.List.FromFn.{get_or-enumerate_from, length-enumerate_from}
use Rattle.std.proofs.lemmas.List.Sums.{count_by-le-length}
use Rattle.span_base.specs.DcSet.{has, centres_of}
use Rattle.workload.specs.World.{Lists, centre_count, rule_of, members_of}
use Rattle.workload.specs.declared.rules.Demand.{Demand}
use Rattle.slo_rules.specs.Rules.{is_read_near, is_write_near}
use Rattle.zero_one.specs.Rows.{Meets, bit_of}
use Rattle.placement_rows.specs.Centres.{centres, numbered_members, read_near, write_near, nobody}
use Rattle.placement_rows.specs.Providers.{asks_providers, provider_rows}
use Rattle.placement_relay.specs.Reading.{h}
use Rattle.placement_relay.specs.Programs.{mode_costs, keeping}
use Rattle.placement_relay.specs.Placed.{chosen_replicas, chosen_primary, chosen_primaries, or_first}
use Rattle.placement_rows.proofs.Collected.{has-set_of, set_of-below, centres_of-below}
use Rattle.placement_rows.proofs.Each.{each-weaker}
use Rattle.placement_rows.proofs.ProviderRows.{Keeps, centres-keep, provider-rows-back}
use Rattle.placement_rows.proofs.Sums.{Found, zip_numbered, find-some}
use Rattle.placement_relay.proofs.Rules.{some_provider, lies_below-from}
use Rattle.placement_relay.proofs.Serving.{IsServing, Serves, AreWritten, below_count}
use Rattle.placement_relay.proofs.MetRows.{Reads, Enough}
use Rattle.placement_relay.proofs.CostParts.{count-near}
use Rattle.placement_relay.proofs.ReadingBits.{nowhere}

module _ (w : Lists) (set : ℕ) (x : List Bool) (few : centre_count w ≤ 16) where
  -- the chosen replicas are the centres whose variable is 1
  pub has-chosen : (d : ℕ) → d < centre_count w → has (chosen_replicas w x) d ≡ bit_of x d
  has-chosen d low = has-set_of (bit_of x) (centre_count w) few d low

  pub within : centres_of (chosen_replicas w x) ≡ filter (has (chosen_replicas w x)) (centres w)
  within = centres_of-below (chosen_replicas w x) (centre_count w) few (set_of-below (bit_of x) (centre_count w))

  same_bits : (d : ℕ) → d < centre_count w → bit_of x d ≡ has (chosen_replicas w x) d
  same_bits d low = sym (has-chosen d low)

  -- the variables that keep replicas keep just the chosen ones
  keeps : Keeps x (keeping w) (centres_of (chosen_replicas w x))
  keeps p = centres-keep w x (has (chosen_replicas w x)) same_bits p ∙ ap (list_any p) (sym within)

  pub written-chosen : Enough w set x (write_near w set) → AreWritten w set (chosen_replicas w x) (λ member d. true)
  written-chosen many = each-weaker _ _ (λ m many. let e = count-near w (chosen_replicas w x) x (is_write_near w (rule_of w set) m.dc.0) within same_bits in omega (arith, many, e)) (members_of w set) many

  module _ (c : Reads w set x) where
    -- where a member's primary is found
    primary_at : (k : ℕ) → k < length (members_of w set) → Found (λ d. bit_of x (h w k d)) (is_read_near w (rule_of w set) (get_or (members_of w set) k nobody).dc.0) 0 (centre_count w) (find (λ d. bit_of x (h w k d)) (read_near w set (get_or (members_of w set) k nobody)))
    primary_at k in' = find-some (λ d. bit_of x (h w k d)) (is_read_near w (rule_of w set) (get_or (members_of w set) k nobody).dc.0) 0 (centre_count w) (c.somewhere k in')

    primary_is : (k : ℕ) (in' : k < length (members_of w set)) → (chosen_primary w set x (k, get_or (members_of w set) k nobody)).at.0 ≡ (primary_at k in').at
    primary_is k in' = ap or_first (primary_at k in').is

    chosen_serves : (k : ℕ) → k < length (members_of w set) → Serves w (rule_of w set) (chosen_replicas w x) (get_or (members_of w set) k nobody) (chosen_primary w set x (k, get_or (members_of w set) k nobody))
    chosen_serves k in' =
        let found = primary_at k in' in
        let at = primary_is k in' in
        let low : found.at < centre_count w = omega (arith, found.high) in
        record {
          named = refl;
          low = omega (arith, at, low);
          kept = ap (has (chosen_replicas w x)) at ∙ has-chosen found.at low ∙ c.replica k found.at in' low found.passes;
          close = ap (is_read_near w (rule_of w set) (get_or (members_of w set) k nobody).dc.0) at ∙ found.among;
        }

    -- a member's primary is a centre at which it reads
    pub primary-read : (a d : ℕ) → a < length (members_of w set) → ((get_or (chosen_primaries w set x) a nowhere).at.0 == d) ≡ true → bit_of x (h w a d) ≡ true
    primary-read a d in' is =
        let m = get_or (members_of w set) a nobody in
        let listed : get_or (chosen_primaries w set x) a nowhere ≡ chosen_primary w set x (a, m) =
        get_or-map (chosen_primary w set x) (numbered_members w set) a (0, nobody) nowhere (omega (arith, length-enumerate_from 0 (members_of w set)))
        ∙ ap (chosen_primary w set x) (get_or-enumerate_from 0 (members_of w set) a (0, nobody) in')
        ∙ ap (λ b. chosen_primary w set x (b, m)) (let e : 0 + a ≡ a = omega arith in e) in
        let at : (primary_at a in').at ≡ d = sym (primary_is a in') ∙ sym (ap (λ near. near.at.0) listed) ∙ eqb-true (get_or (chosen_primaries w set x) a nowhere).at.0 d is in
        ap (λ e. bit_of x (h w a e)) (sym at) ∙ (primary_at a in').passes

    enough_read : AllByRecursion (λ m. (rule_of w set).f < count_by (is_read_near w (rule_of w set) m.dc.0) (centres_of (chosen_replicas w x))) (members_of w set)
    enough_read = each-weaker _ _ (λ m many. let e = count-near w (chosen_replicas w x) x (is_read_near w (rule_of w set) m.dc.0) within same_bits in omega (arith, many, e)) (members_of w set) c.reading

    some_replica : (members : List Demand) → 1 ≤ length members → AllByRecursion (λ m. (rule_of w set).f < count_by (is_read_near w (rule_of w set) m.dc.0) (centres_of (chosen_replicas w x))) members → 1 ≤ length (centres_of (chosen_replicas w x))
    some_replica [] some all = absurd (omega arith)
    some_replica (m ∷ members) some all = omega (arith, all.0, count_by-le-length (is_read_near w (rule_of w set) m.dc.0) (centres_of (chosen_replicas w x)))

    pub serving-chosen : 1 ≤ length (members_of w set) → AllByRecursion (Meets x) (provider_rows w set (length (mode_costs w set)) (keeping w)) → IsServing w set (chosen_replicas w x) (chosen_primaries w set x)
    serving-chosen some met =
        let members = members_of w set in
        let r = rule_of w set in
        record {
          within = within;
          served = zip_numbered (Serves w r (chosen_replicas w x)) (chosen_primary w set x) nobody 0 members
              (λ k in'. subst (λ a. Serves w r (chosen_replicas w x) (get_or members k nobody) (chosen_primary w set x (a, get_or members k nobody))) (let e : k ≡ 0 + k = omega arith in e) (chosen_serves k in'));
          reading = enough_read;
          lies = lies_below-from (centre_count w) (chosen_replicas w x) (set_of-below (bit_of x) (centre_count w));
          apart = provider-rows-back w set x (length (mode_costs w set)) (keeping w) (centres_of (chosen_replicas w x)) keeps (below_count w (chosen_replicas w x) within)
              (some_provider w (centres_of (chosen_replicas w x)) (some_replica members some enough_read)) (asks_providers w set) refl met;
        }
