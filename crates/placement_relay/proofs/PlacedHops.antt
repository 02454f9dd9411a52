-- How an allowed relay policy passes writes on, its choice meets the rows on writing, at the policy's
-- cost.
use Rattle.std.proofs.Common.{◌≡◌, ℕ, zero, suc, ◌+◌, ◌*◌, ◌<◌, ◌≤◌, Bool, true, false, cond, ◌&&◌, ◌==◌, List, [], ◌∷◌, length, get_or, map, refl, sym, ap, subst, ◌∙◌, arith}
use Rattle.std.specs.Prelude.{◌≢◌}
use Rattle.std.specs.List.{sum_by, count_by, AllPairs, AllByRecursion}
use Rattle.std.proofs.lemmas.Bool.{eq-eqb, eqb-true, and_parts}
use Rattle.std.proofs.lemmas.Nat.{mul-le}
use Rattle.std.proofs.lemmas.List.Sums.{sum_by-cons}
use Rattle.span_base.specs.declared.dc_set.DcSet.{DcSet}
use Rattle.span_base.specs.DcSet.{has, centres_of}
use Rattle.span_base.specs.declared.policy.Near.{Near}
use Rattle.span_base.specs.declared.policy.Hop.{Hop}
use Rattle.workload.specs.World.{Lists, centre_count, rule_of, members_of}
use Rattle.workload.specs.declared.rules.Demand.{Demand}
use Rattle.slo_rules.specs.Rules.{is_write_near, is_direct_for, hops_due, centres_asking}
use Rattle.slo_rules.specs.Cost.{puts_cost, source_of, hop_cost, hops_cost}
use Rattle.zero_one.specs.Rows.{bit_of}
use Rattle.placement_rows.specs.Centres.{centres, numbered_members, write_near, nobody}
use Rattle.placement_relay.specs.Relay.{q, passed_cost}
use Rattle.placement_relay.specs.Placed.{has_hop}
use Rattle.placement_rows.proofs.Each.{each-map, each-map_back, each-flat_map, any-each}
use Rattle.placement_rows.proofs.Sums.{sum_by-agree, sum_by-range_agree, sum_by-filter, count_by-some}
use Rattle.placement_rows.proofs.Growing.{sum_by-range_le, sum_by-numbers}
use Rattle.placement_relay.proofs.Serving.{below_count}
use Rattle.placement_relay.proofs.Allowed.{IsRelay, Passes, ends_of, each-both}
use Rattle.placement_relay.proofs.MetHops.{Writes}
use Rattle.placement_relay.proofs.CostParts.{chosen_puts}
use Rattle.placement_relay.proofs.HopsDue.{is_to, members-once, once, count-to, count-from, hop-sums, direct-hop}

member-there : (xs : List Demand) (a : ℕ) → a < length xs → 1 ≤ count_by (λ b. b == (get_or xs a nobody).dc.0) (centres_asking xs)
member-there [] a in' = absurd (omega arith)
member-there (x ∷ xs) zero in' =
    let one : ◌≡◌ {A = ℕ} (cond (x.dc.0 == x.dc.0) 1 0) 1 = ap (λ b. cond b 1 0) (eq-eqb x.dc.0 x.dc.0 refl) in
    omega (arith, one, sum_by-cons (λ b. cond (b == x.dc.0) 1 0) x.dc.0 (centres_asking xs))
member-there (x ∷ xs) (suc a) in' =
    let m = (get_or xs a nobody).dc.0 in
    omega (arith, member-there xs a (omega arith), sum_by-cons (λ b. cond (b == m) 1 0) x.dc.0 (centres_asking xs))

-- a direct near replica is one that is near and direct
near-le : (r a b e : Bool) → (r ≡ true → a ≡ true → e ≡ true) → cond r (cond (a && b) 1 0) 0 ≤ cond b (cond e 1 0) 0
near-le true true true e h = let one : ◌≡◌ {A = ℕ} (cond e 1 0) 1 = ap (λ t. cond t 1 0) (h refl refl) in omega (arith, one)
near-le true true false e h = omega arith
near-le true false b e h = omega arith
near-le false a b e h = omega arith

hop-price : (w : Lists) (set : ℕ) (m : Demand) (hop : Hop) (b : Bool) → (hop.member.0 == m.dc.0) ≡ b
    → cond b (puts_cost w (rule_of w set) m (source_of hop) hop.child.0) 0 ≡ cond b (passed_cost w set m hop.parent.0 hop.child.0) 0
hop-price w set m hop true is =
    ap (λ a. puts_cost w (rule_of w set) m (cond (hop.parent.0 == hop.child.0) a hop.parent.0) hop.child.0) (eqb-true hop.member.0 m.dc.0 is)
hop-price w set m hop false is = refl

module _ (w : Lists) (set : ℕ) (f : ℕ) (replicas : DcSet) (primary : List Near) (hops : List Hop) (relay : IsRelay w set f replicas primary hops) (apart : AllPairs (λ a b. a.dc.0 ≢ b.dc.0) (members_of w set)) where
  pub hops-low : AllByRecursion (λ (hop : Hop). (hop.child.0 < centre_count w) × (hop.parent.0 < centre_count w)) hops
  hops-low =
      let n = centre_count w in
      let kept = below_count w replicas relay.serving.within in
      let due : AllByRecursion (λ (e : ℕ × ℕ). e.1 < n) (hops_due (centres_asking (members_of w set)) (centres_of replicas)) =
      each-flat_map (λ (e : ℕ × ℕ). e.1 < n) (λ m. AllByRecursion (λ d. d < n) (centres_of replicas)) (λ m. map (λ dc. (m, dc)) (centres_of replicas)) (λ m all. each-map (λ (e : ℕ × ℕ). e.1 < n) (λ d. d < n) (λ dc. (m, dc)) (λ d below. below) (centres_of replicas) all)
      (centres_asking (members_of w set)) (for-each (centres_asking (members_of w set)) kept) in
      each-both (λ (hop : Hop). hop.child.0 < n) (Passes w replicas hops) (λ (hop : Hop). (hop.child.0 < n) × (hop.parent.0 < n)) (λ hop child passes. (child, passes.low)) hops
      (each-map_back (λ (e : ℕ × ℕ). e.1 < n) (λ (hop : Hop). hop.child.0 < n) ends_of (λ hop below. below) hops (subst (AllByRecursion (λ (e : ℕ × ℕ). e.1 < n)) (sym relay.due) due))
      relay.passing
    where
      for-each : (ms : List ℕ) → AllByRecursion (λ d. d < centre_count w) (centres_of replicas) → AllByRecursion (λ (m : ℕ). AllByRecursion (λ d. d < centre_count w) (centres_of replicas)) ms
      for-each [] kept = tt
      for-each (m ∷ ms) kept = (kept, for-each ms kept)

  alone : (m : ℕ) → count_by (λ a. a == m) (centres_asking (members_of w set)) ≤ 1
  alone m = members-once m (members_of w set) apart

  each-once : (d : ℕ) → count_by (λ c. c == d) (centres_of replicas) ≤ 1
  each-once d = subst (λ ds. count_by (λ c. c == d) ds ≤ 1) (sym relay.serving.within) (once (has replicas) d 0 (centre_count w))

  -- the member writes to each replica from somewhere
  come : (a d : ℕ) → a < length (members_of w set) → d < centre_count w → has replicas d ≡ true → 1 ≤ count_by (λ p. has_hop hops (get_or (members_of w set) a nobody).dc.0 p d) (centres w)
  come a d in' below is =
      let m = (get_or (members_of w set) a nobody).dc.0 in
      let there = member-there (members_of w set) a in' in
      let kept : 1 ≤ count_by (λ c. c == d) (centres_of replicas) =
      subst (λ ds. 1 ≤ count_by (λ c. c == d) ds) (sym relay.serving.within) (count_by-some (λ c. c == d) (has replicas) d (centre_count w) below is (eq-eqb d d refl)) in
      let both : 1 * 1 ≤ count_by (λ a. a == m) (centres_asking (members_of w set)) * count_by (λ c. c == d) (centres_of replicas) =
      mul-le 1 1 (count_by (λ a. a == m) (centres_asking (members_of w set))) (count_by (λ c. c == d) (centres_of replicas)) there kept in
      omega (
        arith,
        both,
        count-to hops (centres_asking (members_of w set)) (centres_of replicas) relay.due m d,
        count-from hops (centres_asking (members_of w set)) (centres_of replicas) relay.due alone each-once (centre_count w) hops-low m d,
      )

  -- what passes writes on has them from the member itself, and is a replica
  from-itself : (m p d : ℕ) → has_hop hops m p d ≡ true → (has_hop hops m p p ≡ true) × (has replicas p ≡ true)
  from-itself m p d is =
      any-each (λ (hop : Hop). is_to m d hop && hop.parent.0 == p) (Passes w replicas hops) ((has_hop hops m p p ≡ true) × (has replicas p ≡ true))
      (λ hop passes here.
      let parts = and_parts (is_to m d hop) (hop.parent.0 == p) here in
      let ends = and_parts (hop.member.0 == m) (hop.child.0 == d) parts.0 in
      let named = eqb-true hop.member.0 m ends.0 in
      let from = eqb-true hop.parent.0 p parts.1 in (
        sym (direct-hop hops m p) ∙ ap (λ a. is_direct_for hops a p) (sym named) ∙ ap (is_direct_for hops hop.member.0) (sym from) ∙ passes.itself,
        ap (has replicas) (sym from) ∙ passes.kept,
      )) hops relay.passing is

  module _ (x : List Bool) (kept : (d : ℕ) → d < centre_count w → bit_of x d ≡ has replicas d)
      (hop : (a p d : ℕ) → a < length (members_of w set) → p < centre_count w → d < centre_count w → bit_of x (q w set a p d) ≡ has_hop hops (get_or (members_of w set) a nobody).dc.0 p d) where
    enough : (a : ℕ) → a < length (members_of w set) → (rule_of w set).f < count_by (λ d. is_direct_for hops (get_or (members_of w set) a nobody).dc.0 d && is_write_near w (rule_of w set) (get_or (members_of w set) a nobody).dc.0 d) (centres_of replicas)
        → (rule_of w set).f + 1 ≤ count_by (λ p. bit_of x (q w set a p p)) (write_near w set (get_or (members_of w set) a nobody))
    enough a in' many =
        let m = (get_or (members_of w set) a nobody).dc.0 in
        let near : ℕ → Bool = is_write_near w (rule_of w set) m in
        let direct : ℕ → Bool = is_direct_for hops m in
        let own : ℕ → Bool = λ p. bit_of x (q w set a p p) in
        omega (
          arith,
          many,
          ap (count_by (λ d. direct d && near d)) relay.serving.within,
          sum_by-filter (λ d. cond (direct d && near d) 1 0) (has replicas) (centres w),
          sum_by-filter (λ p. cond (own p) 1 0) near (centres w),
          sum_by-range_le (λ d. cond (has replicas d) (cond (direct d && near d) 1 0) 0) (λ d. cond (near d) (cond (own d) 1 0) 0) 0 (centre_count w)
              (λ d from to. near-le (has replicas d) (direct d) (near d) (own d) (λ r is. hop a d d in' (omega arith) (omega arith) ∙ sym (direct-hop hops m d) ∙ is)),
        )

    pub writes-placed : Writes w set x
    writes-placed =
        let members = members_of w set in
        let n = centre_count w in
        record {
          comes = λ a d in' below is.
              let some = come a d in' below (sym (kept d below) ∙ is) in
              let same = sum_by-range_agree (λ p. cond (bit_of x (q w set a p d)) 1 0) (λ p. cond (has_hop hops (get_or members a nobody).dc.0 p d) 1 0) 0 n (λ p from to. ap (λ b. cond b 1 0) (hop a p d in' (omega arith) below)) in
              omega (arith, some, same);
          itself = λ a p d in' below below' is. hop a p p in' below below ∙ (from-itself (get_or members a nobody).dc.0 p d (sym (hop a p d in' below below') ∙ is)).0;
          replica = λ a p in' below is. kept p below ∙ (from-itself (get_or members a nobody).dc.0 p p (sym (hop a p p in' below below) ∙ is)).1;
          near = λ a in'. enough a in' (each-at (λ m. (rule_of w set).f < count_by (λ d. is_direct_for hops m.dc.0 d && is_write_near w (rule_of w set) m.dc.0 d) (centres_of replicas)) members relay.writing a in');
        }
      where
        each-at : (P : Demand → Type 0) (ms : List Demand) → AllByRecursion P ms → (a : ℕ) → a < length ms → P (get_or ms a nobody)
        each-at P [] all a in' = absurd (omega arith)
        each-at P (m ∷ ms) all zero in' = all.0
        each-at P (m ∷ ms) all (suc a) in' = each-at P ms all.1 a (omega arith)

    -- what the hops of the members cost
    pub hops-placed : sum_by (chosen_puts w set x) (numbered_members w set) ≡ sum_by (hops_cost w (rule_of w set) hops) (members_of w set)
    hops-placed =
        let n = centre_count w in
        sym (sum_by-numbers (hops_cost w (rule_of w set) hops) (chosen_puts w set x) nobody 0 (members_of w set)
        (λ k in'.
        let m = get_or (members_of w set) k nobody in
        let at : k ≡ 0 + k = omega arith in
        sum_by-agree (hop_cost w (rule_of w set) m) (λ (hop : Hop). cond (hop.member.0 == m.dc.0) (passed_cost w set m hop.parent.0 hop.child.0) 0) (λ hop. hop-price w set m hop (hop.member.0 == m.dc.0) refl) hops
        ∙ sym (hop-sums hops (centres_asking (members_of w set)) (centres_of replicas) relay.due alone each-once n hops-low m.dc.0 (passed_cost w set m))
        ∙ sym (sum_by-range_agree (λ p. sum_by (λ d. cond (bit_of x (q w set k p d)) (passed_cost w set m p d) 0) (centres w)) (λ p. sum_by (λ d. cond (has_hop hops m.dc.0 p d) (passed_cost w set m p d) 0) (centres w)) 0 n
        (λ p from to. sum_by-range_agree (λ d. cond (bit_of x (q w set k p d)) (passed_cost w set m p d) 0) (λ d. cond (has_hop hops m.dc.0 p d) (passed_cost w set m p d) 0) 0 n
        (λ d from' to'. ap (λ b. cond b (passed_cost w set m p d) 0) (hop k p d in' (omega arith) (omega arith)))))
        ∙ ap (λ a. chosen_puts w set x (a, m)) at))
