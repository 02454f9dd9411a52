-- What the rules say of a direct and of a relay policy, part by part.
use Rattle.std.proofs.Common.{◌≡◌, ℕ, ◌<◌, ◌≤◌, Bool, true, ◌&&◌, List, [], ◌∷◌, map, Option, None, refl, sym, ap, ◌∙◌}
use Rattle.std.specs.Prelude.{nat_lt}
use Rattle.std.specs.List.{list_all, AllByRecursion}
use Rattle.std.specs.Cmp.Lexicographic.{same_text}
use Rattle.std.proofs.lemmas.Bool.{lt-ltb, ltb-true, and_parts, and_from}
use Rattle.std.proofs.lemmas.Simd.{map-map}
use Rattle.span_base.specs.declared.dc_set.DcSet.{DcSet}
use Rattle.span_base.specs.DcSet.{has, centres_of}
use Rattle.span_base.specs.declared.policy.Policy.TheVariants.{Direct, Relay}
use Rattle.span_base.specs.declared.policy.Near.{Near}
use Rattle.span_base.specs.declared.policy.Hop.{Hop}
use Rattle.workload.specs.World.{Lists, centre_count, rule_of, members_of}
use Rattle.workload.specs.declared.rules.Mode.TheVariants as mode
use Rattle.slo_rules.specs.declared.rules.Rule.{Rule}
use Rattle.slo_rules.specs.declared.rules.Rule.TheVariants as rule
use Rattle.slo_rules.specs.Rules.{or_else, first_breach, is_direct_for, lies_below, same_list, centres_asking, primaries_below, hops_due, hop_members, hop_children, has_hops, breach_of_hop, IsAllowed, code_of}
use Rattle.placement_rows.proofs.ProviderCounts.{same_list-refl}
use Rattle.placement_relay.proofs.Serving.{IsServing, AreWritten, primary_breaches, reading_breaches, writing_breaches, are_named, serving-from, below-kept, named-kept, primary-kept, reading-kept, writing-from, writing-kept}
use Rattle.placement_relay.proofs.Rules.{kept-from, kept-back, or_else-none, or_else-both, unless-none, unless-true, breaches, no_breach, each-test, test-each}

-- what an allowed direct policy is
pub record IsDirect (w : Lists) (set : ℕ) (f : ℕ) (replicas : DcSet) (primary : List Near) : Type 0 where
  pub failures : f ≡ (rule_of w set).f
  pub serving : IsServing w set replicas primary
  pub writing : AreWritten w set replicas (λ member d. true)

-- the member and the child of a hop
abbrev pub ends_of : Hop → ℕ × ℕ
ends_of hop = (hop.member.0, hop.child.0)

-- a hop's parent is a centre, a replica, and one to which the member writes itself
pub record Passes (w : Lists) (replicas : DcSet) (hops : List Hop) (hop : Hop) : Type 0 where
  pub low : hop.parent.0 < centre_count w
  pub kept : has replicas hop.parent.0 ≡ true
  pub itself : is_direct_for hops hop.member.0 hop.parent.0 ≡ true

-- what an allowed relay policy is
pub record IsRelay (w : Lists) (set : ℕ) (f : ℕ) (replicas : DcSet) (primary : List Near) (hops : List Hop) : Type 0 where
  pub failures : f ≡ (rule_of w set).f
  pub serving : IsServing w set replicas primary
  pub due : map ends_of hops ≡ hops_due (centres_asking (members_of w set)) (centres_of replicas)
  pub passing : AllByRecursion (Passes w replicas hops) hops
  pub writing : AreWritten w set replicas (is_direct_for hops)

module _ (w : Lists) (set : ℕ) (replicas : DcSet) (primary : List Near) where
  pub direct-from : (f : ℕ) → centre_count w ≤ 16 → IsAllowed w set (Direct f replicas primary) → IsDirect w set f replicas primary
  direct-from f few allowed =
      let k = kept-from w set (Direct f replicas primary) allowed in
      let s = and_parts (lies_below (centre_count w) replicas && primaries_below (centre_count w) primary) (are_named w set primary) k.shape in
      let t = and_parts (lies_below (centre_count w) replicas) (primaries_below (centre_count w) primary) s.0 in
      let a = or_else-none (primary_breaches w set replicas primary) (or_else (reading_breaches w set replicas) (writing_breaches w set replicas (λ member d. true))) k.rules in
      let b = or_else-none (reading_breaches w set replicas) (writing_breaches w set replicas (λ member d. true)) a.1 in
      record {
        failures = k.failures;
        serving = serving-from w set replicas primary few t.0 t.1 s.1 a.0 b.0 k.apart;
        writing = writing-from w set replicas (λ member d. true) b.1;
      }

  pub direct-allowed : (f : ℕ) → (rule_of w set).mode ≡ mode.Direct → IsDirect w set f replicas primary → IsAllowed w set (Direct f replicas primary)
  direct-allowed f is d =
      kept-back w set (Direct f replicas primary) (record {
        mode = sym (ap code_of is);
        failures = d.failures;
        shape = and_from (lies_below (centre_count w) replicas && primaries_below (centre_count w) primary) (are_named w set primary) (below-kept w set replicas primary d.serving) (named-kept w set replicas primary d.serving);
        rules = or_else-both (primary_breaches w set replicas primary) (or_else (reading_breaches w set replicas) (writing_breaches w set replicas (λ member d. true))) (primary-kept w set replicas primary d.serving)
            (or_else-both (reading_breaches w set replicas) (writing_breaches w set replicas (λ member d. true)) (reading-kept w set replicas primary d.serving) (writing-kept w set replicas (λ member d. true) d.writing));
        apart = d.serving.apart;
      })

pairs-from : {X : Type 0} (f g : X → ℕ) (xs : List X) (ys : List (ℕ × ℕ)) → map f xs ≡ map (λ y. y.0) ys → map g xs ≡ map (λ y. y.1) ys → map (λ x. (f x, g x)) xs ≡ ys
pairs-from f g [] [] first second = refl
pairs-from f g [] (y ∷ ys) first second = cc
pairs-from f g (x ∷ xs) [] first second = cc
pairs-from f g (x ∷ xs) (y ∷ ys) first second =
    let a : f x ≡ y.0 = cc in
    let b : g x ≡ y.1 = cc in
    let as' : map f xs ≡ map (λ y. y.0) ys = cc in
    let bs : map g xs ≡ map (λ y. y.1) ys = cc in
    ap (λ v. (v, g x) ∷ map (λ x. (f x, g x)) xs) a
    ∙ ap (λ v. (y.0, v) ∷ map (λ x. (f x, g x)) xs) b
    ∙ ap (λ r. y ∷ r) (pairs-from f g xs ys as' bs)

pub each-both : {X : Type 0} (P Q R : X → Type 0) → ((x : X) → P x → Q x → R x) → (xs : List X) → AllByRecursion P xs → AllByRecursion Q xs → AllByRecursion R xs
each-both P Q R step [] a b = tt
each-both P Q R step (x ∷ xs) a b = (step x a.0 b.0, each-both P Q R step xs a.1 b.1)

module _ (w : Lists) (set : ℕ) (replicas : DcSet) (primary : List Near) (hops : List Hop) where
  abbrev parents_below : Bool
  parents_below = list_all (λ hop. nat_lt hop.parent.0 (centre_count w)) hops

  abbrev hop_breaches : Option Rule
  hop_breaches = first_breach (breach_of_hop replicas hops) hops

  abbrev due : List (ℕ × ℕ)
  due = hops_due (centres_asking (members_of w set)) (centres_of replicas)

  due-from : has_hops hops due ≡ true → map ends_of hops ≡ due
  due-from has =
      let h = and_parts (same_list (hop_members hops) (map (λ hop. hop.0) due)) (same_list (hop_children hops) (map (λ hop. hop.1) due)) has in
      pairs-from (λ hop. hop.member.0) (λ hop. hop.child.0) hops due
      (same_text (hop_members hops) (map (λ hop. hop.0) due) (sym h.0)) (same_text (hop_children hops) (map (λ hop. hop.1) due) (sym h.1))

  due-kept : map ends_of hops ≡ due → has_hops hops due ≡ true
  due-kept is =
      let members : hop_members hops ≡ map (λ hop. hop.0) due = sym (map-map (λ (e : ℕ × ℕ). e.0) ends_of hops) ∙ ap (map (λ (e : ℕ × ℕ). e.0)) is in
      let children : hop_children hops ≡ map (λ hop. hop.1) due = sym (map-map (λ (e : ℕ × ℕ). e.1) ends_of hops) ∙ ap (map (λ (e : ℕ × ℕ). e.1)) is in
      and_from (same_list (hop_members hops) (map (λ hop. hop.0) due)) (same_list (hop_children hops) (map (λ hop. hop.1) due))
      (ap (λ xs. same_list xs (map (λ hop. hop.0) due)) members ∙ same_list-refl (map (λ hop. hop.0) due))
      (ap (λ xs. same_list xs (map (λ hop. hop.1) due)) children ∙ same_list-refl (map (λ hop. hop.1) due))

  passing-from : parents_below ≡ true → hop_breaches ≡ None → AllByRecursion (Passes w replicas hops) hops
  passing-from below none =
      each-both (λ (hop : Hop). hop.parent.0 < centre_count w) (λ (hop : Hop). (has replicas hop.parent.0 ≡ true) × (is_direct_for hops hop.member.0 hop.parent.0 ≡ true)) (Passes w replicas hops)
      (λ hop low kept. record { low = low; kept = kept.0; itself = kept.1 }) hops
      (each-test (λ (hop : Hop). nat_lt hop.parent.0 (centre_count w)) (λ (hop : Hop). hop.parent.0 < centre_count w) (λ hop low. ltb-true hop.parent.0 (centre_count w) low) hops below)
      (breaches (breach_of_hop replicas hops) (λ (hop : Hop). (has replicas hop.parent.0 ≡ true) × (is_direct_for hops hop.member.0 hop.parent.0 ≡ true))
      (λ hop none. and_parts (has replicas hop.parent.0) (is_direct_for hops hop.member.0 hop.parent.0) (unless-none (has replicas hop.parent.0 && is_direct_for hops hop.member.0 hop.parent.0) (rule.Parent hop.member hop.child) none)) hops none)

  passing-kept : AllByRecursion (Passes w replicas hops) hops → (parents_below ≡ true) × (hop_breaches ≡ None)
  passing-kept all = (
    test-each (λ (hop : Hop). nat_lt hop.parent.0 (centre_count w)) (Passes w replicas hops) (λ hop p. lt-ltb hop.parent.0 (centre_count w) p.low) hops all,
    no_breach (breach_of_hop replicas hops) (Passes w replicas hops)
        (λ hop p. unless-true (has replicas hop.parent.0 && is_direct_for hops hop.member.0 hop.parent.0) (rule.Parent hop.member hop.child) (and_from (has replicas hop.parent.0) (is_direct_for hops hop.member.0 hop.parent.0) p.kept p.itself)) hops all,
  )

  pub relay-from : (f : ℕ) → centre_count w ≤ 16 → IsAllowed w set (Relay f replicas primary hops) → IsRelay w set f replicas primary hops
  relay-from f few allowed =
      let k = kept-from w set (Relay f replicas primary hops) allowed in
      let below = lies_below (centre_count w) replicas && primaries_below (centre_count w) primary in
      let s = and_parts (below && parents_below && are_named w set primary) (has_hops hops due) k.shape in
      let t = and_parts (below && parents_below) (are_named w set primary) s.0 in
      let u = and_parts below parents_below t.0 in
      let v = and_parts (lies_below (centre_count w) replicas) (primaries_below (centre_count w) primary) u.0 in
      let written = writing_breaches w set replicas (is_direct_for hops) in
      let a = or_else-none (primary_breaches w set replicas primary) (or_else (reading_breaches w set replicas) (or_else hop_breaches written)) k.rules in
      let b = or_else-none (reading_breaches w set replicas) (or_else hop_breaches written) a.1 in
      let c = or_else-none hop_breaches written b.1 in
      record {
        failures = k.failures;
        serving = serving-from w set replicas primary few v.0 v.1 t.1 a.0 b.0 k.apart;
        due = due-from s.1;
        passing = passing-from u.1 c.0;
        writing = writing-from w set replicas (is_direct_for hops) c.1;
      }

  pub relay-allowed : (f : ℕ) → (rule_of w set).mode ≡ mode.Relay → IsRelay w set f replicas primary hops → IsAllowed w set (Relay f replicas primary hops)
  relay-allowed f is r =
      let below = lies_below (centre_count w) replicas && primaries_below (centre_count w) primary in
      let passing = passing-kept r.passing in
      let written = writing_breaches w set replicas (is_direct_for hops) in
      kept-back w set (Relay f replicas primary hops) (record {
        mode = sym (ap code_of is);
        failures = r.failures;
        shape = and_from (below && parents_below && are_named w set primary) (has_hops hops due)
            (and_from (below && parents_below) (are_named w set primary) (and_from below parents_below (below-kept w set replicas primary r.serving) passing.0) (named-kept w set replicas primary r.serving))
            (due-kept r.due);
        rules = or_else-both (primary_breaches w set replicas primary) (or_else (reading_breaches w set replicas) (or_else hop_breaches written)) (primary-kept w set replicas primary r.serving)
            (or_else-both (reading_breaches w set replicas) (or_else hop_breaches written) (reading-kept w set replicas primary r.serving)
            (or_else-both hop_breaches written passing.1 (writing-kept w set replicas (is_direct_for hops) r.writing)));
        apart = r.serving.apart;
      })
