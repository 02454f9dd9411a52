-- What the rules say of direct and relay policies alike: where replicas are kept, and where members
-- read them.
use Rattle.std.proofs.Common.{◌≡◌, ℕ, ◌<◌, ◌≤◌, Bool, true, ◌&&◌, List, [], ◌∷◌, length, Option, None, refl, sym, ap, subst, ◌∙◌, arith}
use Rattle.std.specs.Prelude.{nat_lt}
use Rattle.std.specs.List.{count_by, filter, AllZip, AllByRecursion}
use Rattle.std.specs.Cmp.Lexicographic.{same_text}
use Rattle.std.proofs.lemmas.Bool.{lt-ltb, ltb-true, and_parts, and_from}
use Rattle.span_base.specs.declared.dc_set.DcSet.{DcSet}
use Rattle.span_base.specs.DcSet.{has, centres_of}
use Rattle.span_base.specs.declared.policy.Near.{Near}
use Rattle.workload.specs.World.{Lists, centre_count, rule_of, members_of}
use Rattle.workload.specs.declared.rules.Demand.{Demand}
use Rattle.workload.specs.declared.rules.SetRule.{SetRule}
use Rattle.slo_rules.specs.declared.rules.Rule.{Rule}
use Rattle.slo_rules.specs.declared.rules.Rule.TheVariants as rule
use Rattle.slo_rules.specs.Rules.{first_breach, is_read_near, is_write_near, count_in, lies_below, same_list, centres_asking, primary_members, primaries_below, breach_of_primary, breach_of_reading, breach_of_writing, providers_of}
use Rattle.placement_rows.specs.Centres.{centres}
use Rattle.placement_rows.proofs.Collected.{centres_of-below}
use Rattle.placement_rows.proofs.Each.{each-kept}
use Rattle.placement_rows.proofs.ProviderCounts.{same_list-refl}
use Rattle.placement_relay.proofs.Rules.{or_else-none, or_else-both, unless-none, unless-true, breaches, no_breach, lies_below-all}

-- a primary is the member's, a centre, a replica and read-near
pub record Serves (w : Lists) (r : SetRule) (replicas : DcSet) (m : Demand) (near : Near) : Type 0 where
  pub named : near.member.0 ≡ m.dc.0
  pub low : near.at.0 < centre_count w
  pub kept : has replicas near.at.0 ≡ true
  pub close : is_read_near w r m.dc.0 near.at.0 ≡ true

-- what direct and relay policies are alike: where they keep replicas, and where members read
pub record IsServing (w : Lists) (set : ℕ) (replicas : DcSet) (primary : List Near) : Type 0 where
  pub within : centres_of replicas ≡ filter (has replicas) (centres w)
  pub served : AllZip (Serves w (rule_of w set) replicas) (members_of w set) primary
  pub reading : AllByRecursion (λ m. (rule_of w set).f < count_by (is_read_near w (rule_of w set) m.dc.0) (centres_of replicas)) (members_of w set)
  pub lies : lies_below (centre_count w) replicas ≡ true
  pub apart : (rule_of w set).providers ≤ length (providers_of w (centres_of replicas))

-- more replicas than may fail are write-near to each member that it writes to itself
abbrev pub AreWritten : Lists → ℕ → DcSet → (ℕ → ℕ → Bool) → Type 0
AreWritten w set replicas direct =
    AllByRecursion (λ m. (rule_of w set).f < count_by (λ d. direct m.dc.0 d && is_write_near w (rule_of w set) m.dc.0 d) (centres_of replicas)) (members_of w set)

served_by : (w : Lists) (r : SetRule) (replicas : DcSet) (members : List Demand) (primary : List Near)
    → primaries_below (centre_count w) primary ≡ true → primary_members primary ≡ centres_asking members → first_breach (breach_of_primary w r replicas) primary ≡ None → AllZip (Serves w r replicas) members primary
served_by w r replicas [] [] low named near = tt
served_by w r replicas [] (p ∷ primary) low named near = cc
served_by w r replicas (m ∷ members) [] low named near = cc
served_by w r replicas (m ∷ members) (p ∷ primary) low named near =
    let below = and_parts (nat_lt p.at.0 (centre_count w)) (primaries_below (centre_count w) primary) low in
    let breach = or_else-none (breach_of_primary w r replicas p) (first_breach (breach_of_primary w r replicas) primary) near in
    let good = and_parts (has replicas p.at.0) (is_read_near w r p.member.0 p.at.0) (unless-none (has replicas p.at.0 && is_read_near w r p.member.0 p.at.0) (rule.Primary p.member) breach.0) in
    let first : p.member.0 ≡ m.dc.0 = cc in
    let others : primary_members primary ≡ centres_asking members = cc in (
      record { named = first; low = ltb-true p.at.0 (centre_count w) below.0; kept = good.0; close = ap (λ a. is_read_near w r a p.at.0) (sym first) ∙ good.1 },
      served_by w r replicas members primary below.1 others breach.1,
    )

served-below : (w : Lists) (r : SetRule) (replicas : DcSet) (members : List Demand) (primary : List Near) → AllZip (Serves w r replicas) members primary → primaries_below (centre_count w) primary ≡ true
served-below w r replicas [] [] all = refl
served-below w r replicas [] (p ∷ primary) all = absurd all
served-below w r replicas (m ∷ members) [] all = absurd all
served-below w r replicas (m ∷ members) (p ∷ primary) all =
    and_from (nat_lt p.at.0 (centre_count w)) (primaries_below (centre_count w) primary) (lt-ltb p.at.0 (centre_count w) all.0.low) (served-below w r replicas members primary all.1)

served-named : (w : Lists) (r : SetRule) (replicas : DcSet) (members : List Demand) (primary : List Near) → AllZip (Serves w r replicas) members primary → primary_members primary ≡ centres_asking members
served-named w r replicas [] [] all = refl
served-named w r replicas [] (p ∷ primary) all = absurd all
served-named w r replicas (m ∷ members) [] all = absurd all
served-named w r replicas (m ∷ members) (p ∷ primary) all =
    let first = all.0.named in
    let rest = served-named w r replicas members primary all.1 in cc

served-near : (w : Lists) (r : SetRule) (replicas : DcSet) (members : List Demand) (primary : List Near) → AllZip (Serves w r replicas) members primary → first_breach (breach_of_primary w r replicas) primary ≡ None
served-near w r replicas [] [] all = refl
served-near w r replicas [] (p ∷ primary) all = absurd all
served-near w r replicas (m ∷ members) [] all = absurd all
served-near w r replicas (m ∷ members) (p ∷ primary) all =
    or_else-both (breach_of_primary w r replicas p) (first_breach (breach_of_primary w r replicas) primary)
    (unless-true (has replicas p.at.0 && is_read_near w r p.member.0 p.at.0) (rule.Primary p.member)
    (and_from (has replicas p.at.0) (is_read_near w r p.member.0 p.at.0) all.0.kept (ap (λ a. is_read_near w r a p.at.0) all.0.named ∙ all.0.close)))
    (served-near w r replicas members primary all.1)

-- the replicas are centres of the world
pub below_count : (w : Lists) (replicas : DcSet) → centres_of replicas ≡ filter (has replicas) (centres w) → AllByRecursion (λ d. d < centre_count w) (centres_of replicas)
below_count w replicas within = subst (AllByRecursion (λ d. d < centre_count w)) (sym within) (each-kept (λ d. d < centre_count w) (has replicas) 0 (centre_count w) (λ d from to is. omega arith))

-- the breaches of a part of the rules
abbrev pub primary_breaches : Lists → ℕ → DcSet → List Near → Option Rule
primary_breaches w set replicas primary = first_breach (breach_of_primary w (rule_of w set) replicas) primary

abbrev pub reading_breaches : Lists → ℕ → DcSet → Option Rule
reading_breaches w set replicas = first_breach (breach_of_reading w (rule_of w set) replicas) (members_of w set)

abbrev pub writing_breaches : Lists → ℕ → DcSet → (ℕ → ℕ → Bool) → Option Rule
writing_breaches w set replicas direct = first_breach (breach_of_writing w (rule_of w set) replicas direct) (members_of w set)

-- the shape that direct and relay policies share
abbrev pub are_named : Lists → ℕ → List Near → Bool
are_named w set primary = same_list (primary_members primary) (centres_asking (members_of w set))

module _ (w : Lists) (set : ℕ) (replicas : DcSet) (primary : List Near) where
  pub serving-from : centre_count w ≤ 16 → lies_below (centre_count w) replicas ≡ true → primaries_below (centre_count w) primary ≡ true → are_named w set primary ≡ true
      → primary_breaches w set replicas primary ≡ None → reading_breaches w set replicas ≡ None → (rule_of w set).providers ≤ length (providers_of w (centres_of replicas)) → IsServing w set replicas primary
  serving-from few lies below named near read apart =
      let r = rule_of w set in
      let members = members_of w set in
      record {
        within = centres_of-below replicas (centre_count w) few (lies_below-all (centre_count w) replicas lies);
        served = served_by w r replicas members primary below (same_text (primary_members primary) (centres_asking members) (sym named)) near;
        reading = breaches (breach_of_reading w r replicas) (λ m. r.f < count_by (is_read_near w r m.dc.0) (centres_of replicas)) (λ m none. ltb-true r.f (count_in (is_read_near w r m.dc.0) replicas) (unless-none (nat_lt r.f (count_in (is_read_near w r m.dc.0) replicas)) (rule.ReadSlo m.dc) none)) members read;
        lies = lies;
        apart = apart;
      }

  -- the shape and the rules that a policy keeps which serves its members
  pub below-kept : IsServing w set replicas primary → (lies_below (centre_count w) replicas && primaries_below (centre_count w) primary) ≡ true
  below-kept s = and_from (lies_below (centre_count w) replicas) (primaries_below (centre_count w) primary) s.lies (served-below w (rule_of w set) replicas (members_of w set) primary s.served)

  pub named-kept : IsServing w set replicas primary → are_named w set primary ≡ true
  named-kept s =
      ap (λ xs. same_list xs (centres_asking (members_of w set))) (served-named w (rule_of w set) replicas (members_of w set) primary s.served)
      ∙ same_list-refl (centres_asking (members_of w set))

  pub primary-kept : IsServing w set replicas primary → primary_breaches w set replicas primary ≡ None
  primary-kept s = served-near w (rule_of w set) replicas (members_of w set) primary s.served

  pub reading-kept : IsServing w set replicas primary → reading_breaches w set replicas ≡ None
  reading-kept s =
      let r = rule_of w set in
      no_breach (breach_of_reading w r replicas) (λ m. r.f < count_by (is_read_near w r m.dc.0) (centres_of replicas)) (λ m many. unless-true (nat_lt r.f (count_in (is_read_near w r m.dc.0) replicas)) (rule.ReadSlo m.dc) (lt-ltb r.f (count_in (is_read_near w r m.dc.0) replicas) many)) (members_of w set) s.reading

pub writing-from : (w : Lists) (set : ℕ) (replicas : DcSet) (direct : ℕ → ℕ → Bool) → writing_breaches w set replicas direct ≡ None → AreWritten w set replicas direct
writing-from w set replicas direct none =
    let r = rule_of w set in
    let many : Demand → ℕ = λ m. count_in (λ dc. direct m.dc.0 dc && is_write_near w r m.dc.0 dc) replicas in
    breaches (breach_of_writing w r replicas direct) (λ m. r.f < many m) (λ m none. ltb-true r.f (many m) (unless-none (nat_lt r.f (many m)) (rule.WriteSlo m.dc) none)) (members_of w set) none

pub writing-kept : (w : Lists) (set : ℕ) (replicas : DcSet) (direct : ℕ → ℕ → Bool) → AreWritten w set replicas direct → writing_breaches w set replicas direct ≡ None
writing-kept w set replicas direct all =
    let r = rule_of w set in
    let many : Demand → ℕ = λ m. count_in (λ dc. direct m.dc.0 dc && is_write_near w r m.dc.0 dc) replicas in
    no_breach (breach_of_writing w r replicas direct) (λ m. r.f < many m) (λ m more. unless-true (nat_lt r.f (many m)) (rule.WriteSlo m.dc) (lt-ltb r.f (many m) more)) (members_of w set) all
