-- How a choice passes writes on that meets the rows on writing is as the rules ask.
use Rattle.std.proofs.Common.{◌≡◌, ℕ, zero, suc, ◌+◌, ◌<◌, ◌≤◌, inl, inr, Bool, true, false, cond, ◌&&◌, ◌||◌, ◌==◌, List, [], ◌∷◌, ◌++◌, length, get_or, map, refl, sym, ap, subst, ◌∙◌, arith}
use Rattle.std.specs.Prelude.{◌≢◌}
use Rattle.std.specs.List.{count_by, filter, find, flat_map, list_any, enumerate_from, AllPairs, AllByRecursion}
use Rattle.std.proofs.lemmas.Bool.{cases_Bool, cases_order, eq-eqb, eqb-true, and_parts, and_from}
use Rattle.std.proofs.lemmas.Simd.{map-map}
use Rattle.std.proofs.lemmas.List.{map-append}
use Rattle.std.proofs.lemmas.List.Folds.{list_any-append}
use Rattle.std.proofs.lemmas.List.Sums.{sum_by-cons}
use Rattle.span_base.specs.declared.policy.Hop.{Hop}
use Rattle.span_base.specs.DcSet.{has, centres_of}
use Rattle.workload.specs.World.{Lists, centre_count, rule_of, members_of}
use Rattle.workload.specs.declared.rules.Demand.{Demand}
use Rattle.slo_rules.specs.Rules.{is_write_near, is_direct_for, hops_due, centres_asking}
use Rattle.zero_one.specs.Rows.{bit_of}
use Rattle.placement_rows.specs.Centres.{centres, numbered_members, nobody}
use Rattle.placement_relay.specs.Relay.{q}
use Rattle.placement_relay.specs.Placed.{has_hop, chosen_replicas, chosen_parent, chosen_hop, chosen_hops, or_first}
use Rattle.placement_rows.proofs.Collected.{centres_of-set_of}
use Rattle.placement_rows.proofs.Each.{each-map, each-flat_map, each-kept, each-numbered, each-weaker, any-each}
use Rattle.placement_rows.proofs.Growing.{sum_by-range_le}
use Rattle.placement_rows.proofs.Sums.{sum_by-filter, count_by-some, find-some}
use Rattle.placement_relay.proofs.Serving.{AreWritten}
use Rattle.placement_relay.proofs.Allowed.{Passes, ends_of}
use Rattle.placement_relay.proofs.MetHops.{Writes}
use Rattle.placement_relay.proofs.HopsDue.{is_to, direct-hop}
use Rattle.placement_relay.proofs.DecodedReading.{has-chosen, within}

all-kept : (xs : List ℕ) → filter (λ x. true) xs ≡ xs
all-kept [] = refl
all-kept (x ∷ xs) = ap (λ ys. x ∷ ys) (all-kept xs)

-- where an element is counted, there is one
some-any_of : {X : Type 0} (t : X → Bool) (x : X) (xs : List X) (b : Bool) → t x ≡ b → (1 ≤ count_by t xs → list_any t xs ≡ true) → 1 ≤ count_by t (x ∷ xs) → (b || list_any t xs) ≡ true
some-any_of t x xs true e rest many = refl
some-any_of t x xs false e rest many =
    let none : ◌≡◌ {A = ℕ} (cond (t x) 1 0) 0 = ap (λ b. cond b 1 0) e in
    rest (omega (arith, none, many, sum_by-cons (λ x. cond (t x) 1 0) x xs))

some-any : {X : Type 0} (t : X → Bool) (xs : List X) → 1 ≤ count_by t xs → list_any t xs ≡ true
some-any t [] many = absurd (omega arith)
some-any t (x ∷ xs) many = some-any_of t x xs (t x) refl (some-any t xs) many

any-map : {X Y : Type 0} (t : Y → Bool) (f : X → Y) (xs : List X) → list_any t (map f xs) ≡ list_any (λ x. t (f x)) xs
any-map t f [] = refl
any-map t f (x ∷ xs) = ap (λ b. t (f x) || b) (any-map t f xs)

or-true : (b : Bool) → (b || true) ≡ true
or-true true = refl
or-true false = refl

any-piece : {X Y : Type 0} (t : Y → Bool) (f : ℕ × X → List Y) (e : X) (n : ℕ) (xs : List X) (a : ℕ) → a < length xs → list_any t (f (n + a, get_or xs a e)) ≡ true → list_any t (flat_map f (enumerate_from n xs)) ≡ true
any-piece t f e n [] a in' is = absurd (omega arith)
any-piece t f e n (x ∷ xs) zero in' is =
    let here : list_any t (f (n, x)) ≡ true = ap (λ k. list_any t (f (k, x))) (let e : n ≡ n + 0 = omega arith in e) ∙ is in
    list_any-append t (f (n, x)) (flat_map f (enumerate_from (n + 1) xs)) ∙ ap (λ b. b || list_any t (flat_map f (enumerate_from (n + 1) xs))) here
any-piece t f e n (x ∷ xs) (suc a) in' is =
    let at : (n + 1) + a ≡ n + suc a = omega arith in
    let rest = any-piece t f e (n + 1) xs a (omega arith) (ap (λ k. list_any t (f (k, get_or xs a e))) at ∙ is) in
    list_any-append t (f (n, x)) (flat_map f (enumerate_from (n + 1) xs)) ∙ ap (λ b. list_any t (f (n, x)) || b) rest ∙ or-true (list_any t (f (n, x)))

each-index : (P : Demand → Type 0) (ms : List Demand) → ((a : ℕ) → a < length ms → P (get_or ms a nobody)) → AllByRecursion P ms
each-index P [] each = tt
each-index P (m ∷ ms) each = (each 0 (omega arith), each-index P ms (λ a in'. each (suc a) (omega arith)))

near-ge : (b e r a : Bool) → (e ≡ true → (r ≡ true) × (a ≡ true)) → cond b (cond e 1 0) 0 ≤ cond r (cond (a && b) 1 0) 0
near-ge true true r a h =
    let one : ◌≡◌ {A = ℕ} (cond r (cond (a && true) 1 0) 0) 1 = ap (λ t. cond t (cond (a && true) 1 0) 0) (h refl).0 ∙ ap (λ t. cond (t && true) 1 0) (h refl).1 in
    omega (arith, one)
near-ge true false r a h = omega arith
near-ge false e r a h = omega arith

-- from where a member's writes come to a replica by the choice
record Parent (w : Lists) (set : ℕ) (x : List Bool) (a d : ℕ) : Type 0 where
  at : ℕ
  is : chosen_parent w set x a d ≡ at
  low : at < centre_count w
  passes : bit_of x (q w set a at d) ≡ true

-- a hop that is chosen for one of the members
record Comes (w : Lists) (set : ℕ) (x : List Bool) (hop : Hop) : Type 0 where
  number : ℕ
  in' : number < length (members_of w set)
  named : hop.member.0 ≡ (get_or (members_of w set) number nobody).dc.0
  low : hop.parent.0 < centre_count w
  passes : bit_of x (q w set number hop.parent.0 hop.child.0) ≡ true
  itself : bit_of x (q w set number hop.parent.0 hop.parent.0) ≡ true
  kept : bit_of x hop.parent.0 ≡ true

module _ (w : Lists) (set : ℕ) (x : List Bool) where
  own-parent : (a d : ℕ) → bit_of x (q w set a d d) ≡ true → chosen_parent w set x a d ≡ d
  own-parent a d own = ap (λ b. cond b d (or_first (find (λ p. bit_of x (q w set a p d)) (centres w)))) own

  due_of : (ds : List ℕ) (a : ℕ) (ms : List Demand) → map ends_of (flat_map (λ am. map (chosen_hop w set x am) ds) (enumerate_from a ms)) ≡ hops_due (centres_asking ms) ds
  due_of ds a [] = refl
  due_of ds a (m ∷ ms) =
      map-append ends_of (map (chosen_hop w set x (a, m)) ds) (flat_map (λ am. map (chosen_hop w set x am) ds) (enumerate_from (a + 1) ms))
      ∙ ap (λ es. es ++ map ends_of (flat_map (λ am. map (chosen_hop w set x am) ds) (enumerate_from (a + 1) ms))) (map-map ends_of (chosen_hop w set x (a, m)) ds)
      ∙ ap (λ es. map (λ dc. (m.dc.0, dc)) ds ++ es) (due_of ds (a + 1) ms)

  pub due-chosen : centre_count w ≤ 16 → map ends_of (chosen_hops w set x) ≡ hops_due (centres_asking (members_of w set)) (centres_of (chosen_replicas w x))
  due-chosen few =
      due_of (filter (bit_of x) (centres w)) 0 (members_of w set)
      ∙ ap (hops_due (centres_asking (members_of w set))) (sym (centres_of-set_of (bit_of x) (centre_count w) few))

  -- a member's hop from a replica to itself is chosen
  direct-chosen : (a p : ℕ) → a < length (members_of w set) → p < centre_count w → bit_of x p ≡ true → bit_of x (q w set a p p) ≡ true → is_direct_for (chosen_hops w set x) (get_or (members_of w set) a nobody).dc.0 p ≡ true
  direct-chosen a p in' low kept own =
      let m = get_or (members_of w set) a nobody in
      let hops : ℕ × Demand → List Hop = λ am. map (chosen_hop w set x am) (filter (bit_of x) (centres w)) in
      let here : Hop → Bool = λ hop. is_to m.dc.0 p hop && hop.parent.0 == p in
      let one : here (chosen_hop w set x (a, m) p) ≡ true =
      and_from (is_to m.dc.0 p (chosen_hop w set x (a, m) p)) (chosen_parent w set x a p == p)
      (and_from (m.dc.0 == m.dc.0) (p == p) (eq-eqb m.dc.0 m.dc.0 refl) (eq-eqb p p refl)) (eq-eqb (chosen_parent w set x a p) p (own-parent a p own)) in
      let piece : list_any here (hops (a, m)) ≡ true =
      any-map here (chosen_hop w set x (a, m)) (filter (bit_of x) (centres w))
      ∙ some-any (λ d. here (chosen_hop w set x (a, m) d)) (filter (bit_of x) (centres w)) (count_by-some (λ d. here (chosen_hop w set x (a, m) d)) (bit_of x) p (centre_count w) low kept one) in
      direct-hop (chosen_hops w set x) m.dc.0 p
      ∙ any-piece here hops nobody 0 (members_of w set) a in' (ap (λ k. list_any here (hops (k, m))) (let e : 0 + a ≡ a = omega arith in e) ∙ piece)

  module _ (few : centre_count w ≤ 16) (c : Writes w set x) where
    parent_of : (a d : ℕ) → a < length (members_of w set) → d < centre_count w → bit_of x d ≡ true → Parent w set x a d
    parent_of a d in' low kept = elim (cases_Bool (bit_of x (q w set a d d))) [
      | inl own ↦ record { at = d; is = own-parent a d own; low = low; passes = own }
      | inr other ↦
          let comes : ℕ → Bool = λ p. bit_of x (q w set a p d) in
          let every = all-kept (centres w) in
          let found = find-some comes (λ p. true) 0 (centre_count w) (subst (λ ps. 1 ≤ count_by comes ps) (sym every) (c.comes a d in' low kept)) in
          record {
            at = found.at;
            is = ap (λ b. cond b d (or_first (find comes (centres w)))) other ∙ ap or_first (ap (find comes) (sym every) ∙ found.is);
            low = omega (arith, found.high);
            passes = found.passes;
          }
    ]

    comes_at : (a d : ℕ) → a < length (members_of w set) → d < centre_count w → bit_of x d ≡ true → Comes w set x (chosen_hop w set x (a, get_or (members_of w set) a nobody) d)
    comes_at a d in' low kept =
        let p = parent_of a d in' low kept in
        let own = c.itself a p.at d in' p.low low p.passes in
        record {
          number = a;
          in' = in';
          named = refl;
          low = omega (arith, p.is, p.low);
          passes = ap (λ e. bit_of x (q w set a e d)) p.is ∙ p.passes;
          itself = ap (λ e. bit_of x (q w set a e e)) p.is ∙ own;
          kept = ap (bit_of x) p.is ∙ c.replica a p.at in' p.low own;
        }

    all_come : AllByRecursion (Comes w set x) (chosen_hops w set x)
    all_come =
        let members = members_of w set in
        each-flat_map (Comes w set x) (λ (am : ℕ × Demand). (am.0 < length members) × (am.1 ≡ get_or members am.0 nobody)) (λ am. map (chosen_hop w set x am) (filter (bit_of x) (centres w)))
        (λ am is. each-map (Comes w set x) (λ d. (d < centre_count w) × (bit_of x d ≡ true)) (chosen_hop w set x am)
        (λ d kept. subst (λ m. Comes w set x (chosen_hop w set x (am.0, m) d)) (sym is.1) (comes_at am.0 d is.0 kept.0 kept.1)) (filter (bit_of x) (centres w))
        (each-kept (λ d. (d < centre_count w) × (bit_of x d ≡ true)) (bit_of x) 0 (centre_count w) (λ d from to kept. (omega arith, kept))))
        (numbered_members w set)
        (each-numbered (λ (am : ℕ × Demand). (am.0 < length members) × (am.1 ≡ get_or members am.0 nobody)) nobody 0 members (λ k in'. (omega arith, ap (λ a. get_or members a nobody) (let e : k ≡ 0 + k = omega arith in e))))

    pub passing-chosen : AllByRecursion (Passes w (chosen_replicas w x) (chosen_hops w set x)) (chosen_hops w set x)
    passing-chosen =
        each-weaker (Comes w set x) (Passes w (chosen_replicas w x) (chosen_hops w set x))
        (λ hop comes. record {
          low = comes.low;
          kept = has-chosen w set x few hop.parent.0 comes.low ∙ comes.kept;
          itself = ap (λ m. is_direct_for (chosen_hops w set x) m hop.parent.0) comes.named ∙ direct-chosen comes.number hop.parent.0 comes.in' comes.low comes.kept comes.itself;
        }) (chosen_hops w set x) all_come

    pub writing-chosen : AreWritten w set (chosen_replicas w x) (is_direct_for (chosen_hops w set x))
    writing-chosen =
        each-index (λ m. (rule_of w set).f < count_by (λ d. is_direct_for (chosen_hops w set x) m.dc.0 d && is_write_near w (rule_of w set) m.dc.0 d) (centres_of (chosen_replicas w x))) (members_of w set)
        (λ a in'.
        let m = (get_or (members_of w set) a nobody).dc.0 in
        let near : ℕ → Bool = is_write_near w (rule_of w set) m in
        let direct : ℕ → Bool = is_direct_for (chosen_hops w set x) m in
        let own : ℕ → Bool = λ p. bit_of x (q w set a p p) in
        omega (
          arith,
          c.near a in',
          ap (count_by (λ d. direct d && near d)) (within w set x few),
          sum_by-filter (λ d. cond (direct d && near d) 1 0) (has (chosen_replicas w x)) (centres w),
          sum_by-filter (λ p. cond (own p) 1 0) near (centres w),
          sum_by-range_le (λ d. cond (near d) (cond (own d) 1 0) 0) (λ d. cond (has (chosen_replicas w x) d) (cond (direct d && near d) 1 0) 0) 0 (centre_count w)
              (λ d from to. near-ge (near d) (own d) (has (chosen_replicas w x) d) (direct d)
              (λ is.
              let low : d < centre_count w = omega arith in
              let kept = c.replica a d in' low is in
              (has-chosen w set x few d low ∙ kept, direct-chosen a d in' low kept is))),
        ))

    -- a chosen hop is one of the choice
    pub hop-chosen : AllPairs (λ a b. a.dc.0 ≢ b.dc.0) (members_of w set) → (a p d : ℕ) → a < length (members_of w set) → has_hop (chosen_hops w set x) (get_or (members_of w set) a nobody).dc.0 p d ≡ true → bit_of x (q w set a p d) ≡ true
    hop-chosen apart a p d in' is =
        let m = (get_or (members_of w set) a nobody).dc.0 in
        any-each (λ (hop : Hop). is_to m d hop && hop.parent.0 == p) (Comes w set x) (bit_of x (q w set a p d) ≡ true)
        (λ hop comes here.
        let parts = and_parts (is_to m d hop) (hop.parent.0 == p) here in
        let ends = and_parts (hop.member.0 == m) (hop.child.0 == d) parts.0 in
        let same : comes.number ≡ a = alike comes.number a comes.in' in' (sym comes.named ∙ eqb-true hop.member.0 m ends.0) in
        ap (λ k. bit_of x (q w set k p d)) (sym same)
        ∙ ap (λ e. bit_of x (q w set comes.number e d)) (sym (eqb-true hop.parent.0 p parts.1))
        ∙ ap (λ e. bit_of x (q w set comes.number hop.parent.0 e)) (sym (eqb-true hop.child.0 d ends.1))
        ∙ comes.passes) (chosen_hops w set x) all_come is
      where
        alike : (a b : ℕ) → a < length (members_of w set) → b < length (members_of w set) → (get_or (members_of w set) a nobody).dc.0 ≡ (get_or (members_of w set) b nobody).dc.0 → a ≡ b
        alike a b in' in'' same = elim (cases_order a b) [
          | inl e ↦ e
          | inr other ↦ elim other [
            | inl below ↦ absurd (apart a b nobody below in'' same)
            | inr above ↦ absurd (apart b a nobody above in' (sym same))
          ]
        ]
