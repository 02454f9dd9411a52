-- A member's write comes to every replica of a sound policy: from the member itself, or by a replica that has it from the member.
use Rattle.std.proofs.Common.{◌≡◌, ◌≢◌, ◌⊎◌, inl, inr, ℕ, ◌<◌, Bool, true, false, List, [], ◌∷◌, refl, sym, ap, ◌∙◌, subst, arith}
use Rattle.register_law.proofs.Words.{and_left, and_right}
use Rattle.std.specs.Prelude.{◌==◌, ◌&&◌, not, find, map, Option, Some, None, Contains}
use Rattle.std.specs.List.{AllPairs, flat_map}
use Rattle.std.specs.Option.{option_map_or}
use Rattle.std.proofs.lemmas.Bool.{eq-eqb, eqb-true, and_from}
use Rattle.std.proofs.lemmas.List.Elements.{All-contains}
use Rattle.span_base.specs.DcSet.{has, centres_of}
use Rattle.span_base.specs.Policy.{ArePrimaries, AreHops, IsDirect, IsSoundPolicy, lane_of, lanes_of}
use Rattle.span_base.specs.PolicyParts.{replicas_of}
use Rattle.span_base.specs.declared.dc_set.DcSet.{DcSet}
use Rattle.span_base.specs.declared.policy.Near.{Near}
use Rattle.span_base.specs.declared.policy.Hop.{Hop}
use Rattle.span_base.specs.declared.policy.Policy.{Policy}
use Rattle.span_base.specs.declared.policy.Policy.TheVariants.{Direct, Relay, Strong}
use Rattle.span_base.proofs.Sets.{All-centres_of, IsStrictlyIncreasing-centres_of}
use Rattle.relay_proxy.specs.Routes.{parent_of, is_direct, is_onward}
use Rattle.register_order.proofs.Members.{among, none_among, in_flat_map, Contains-here, Contains-there, AllPairs-append, AllPairs-head, AllPairs-tail, AllPairs-nil, All-from_each}
use Rattle.std.proofs.lemmas.List.Kept.{AllPairs-cons, AllPairs-from_increasing}
use Rattle.eventual_law.proofs.Lists.{into_map, found_in, finds_some}

-- the writes of a member to two replicas are apart
lane_in : (member : ℕ) (ds : List ℕ) (lane : ℕ × ℕ) → Contains (map (λ d. (member, d)) ds) lane → (lane.0 ≡ member) × Contains ds lane.1
lane_in member [] lane c = absurd (none_among lane c)
lane_in member (d ∷ ds) lane c = elim (among (member, d) (map (λ e. (member, e)) ds) lane c) as (λ _. (lane.0 ≡ member) × Contains (d ∷ ds) lane.1) [
  | inl is ↦ (ap (λ (x : ℕ × ℕ). x.0) is, subst (Contains (d ∷ ds)) (sym (ap (λ (x : ℕ × ℕ). x.1) is)) (Contains-here d ds))
  | inr more ↦ (let rest = lane_in member ds lane more in (rest.0, Contains-there d ds lane.1 rest.1))
]

abbrev Apart : ℕ × ℕ → ℕ × ℕ → Type 0
Apart x y = x ≢ y

own_apart : (member : ℕ) (ds : List ℕ) → AllPairs (λ x y. x < y) ds → AllPairs Apart (map (λ d. (member, d)) ds)
own_apart member [] h = AllPairs-nil Apart
own_apart member (d ∷ ds) h =
    AllPairs-cons Apart (member, d) (map (λ e. (member, e)) ds)
    (All-from_each (Apart (member, d)) (map (λ e. (member, e)) ds) (λ lane c same.
    (let in_ds = (lane_in member ds lane c).1 in
    let lt : d < lane.1 = All-contains (λ e. d < e) ds lane.1 (AllPairs-head (λ x y. x < y) d ds h) in_ds in
    let e : d ≡ lane.1 = ap (λ (x : ℕ × ℕ). x.1) same in
    omega arith)))
    (own_apart member ds (AllPairs-tail (λ x y. x < y) d ds h))

lanes_apart : (replicas : DcSet) (primary : List Near) → AllPairs (λ c d. c ≢ d) (map (λ n. n.member.0) primary) → AllPairs Apart (flat_map (λ n. lanes_of replicas n.member.0) primary)
lanes_apart replicas [] h = AllPairs-nil Apart
lanes_apart replicas (n ∷ ns) h =
    AllPairs-append Apart (lanes_of replicas n.member.0) (flat_map (λ x. lanes_of replicas x.member.0) ns)
    (own_apart n.member.0 (centres_of replicas) (AllPairs-from_increasing (centres_of replicas) (IsStrictlyIncreasing-centres_of replicas)))
    (lanes_apart replicas ns (AllPairs-tail (λ c d. c ≢ d) n.member.0 (map (λ x. x.member.0) ns) h))
    (λ one other a b same. (
    let from = in_flat_map (λ (x : Near). lanes_of replicas x.member.0) ns other b in
    let first = (lane_in n.member.0 (centres_of replicas) one a).0 in
    let second = (lane_in from.0.member.0 (centres_of replicas) other from.2).0 in
    let members : n.member.0 ≡ from.0.member.0 = sym first ∙ ap (λ (x : ℕ × ℕ). x.0) same ∙ second in
    All-contains (λ c. n.member.0 ≢ c) (map (λ x. x.member.0) ns) from.0.member.0 (AllPairs-head (λ c d. c ≢ d) n.member.0 (map (λ x. x.member.0) ns) h) (into_map (λ (x : Near). x.member.0) ns from.0 from.1) members))

-- no two hops carry one member's write to one replica
one_hop : (hops : List Hop) → AllPairs Apart (map lane_of hops) → (one other : Hop) → Contains hops one → Contains hops other → lane_of one ≡ lane_of other → one ≡ other
one_hop [] h one other a b same = absurd (none_among one a)
one_hop (x ∷ xs) h one other a b same = elim (among x xs one a) as (λ _. one ≡ other) [
  | inl first ↦ elim (among x xs other b) as (λ _. one ≡ other) [
    | inl second ↦ first ∙ sym second
    | inr later ↦ absurd (All-contains (Apart (lane_of x)) (map lane_of xs) (lane_of other) (AllPairs-head Apart (lane_of x) (map lane_of xs) h) (into_map lane_of xs other later) (sym (ap lane_of first) ∙ same))
  ]
  | inr later ↦ elim (among x xs other b) as (λ _. one ≡ other) [
    | inl second ↦ absurd (All-contains (Apart (lane_of x)) (map lane_of xs) (lane_of one) (AllPairs-head Apart (lane_of x) (map lane_of xs) h) (into_map lane_of xs one later) (sym (ap lane_of second) ∙ sym same))
    | inr also ↦ one_hop xs (AllPairs-tail Apart (lane_of x) (map lane_of xs) h) one other later also same
  ]
]

-- the member's write comes to the replica d from its parent, which has it from the member
pub record IsCovered (policy : Policy) (member d : ℕ) : Type 0 where
  pub parent : ℕ
  pub direct : is_direct policy member parent ≡ true
  pub comes : (d ≡ parent) ⊎ (is_onward policy member parent d ≡ true)

-- a replica that the member writes to itself
itself : (policy : Policy) (member d : ℕ) → has (replicas_of policy) d ≡ true → parent_of policy member d ≡ d → IsCovered policy member d
itself policy member d there own =
    record { parent = d; direct = and_from (has (replicas_of policy) d) (parent_of policy member d == d) there (eq-eqb (parent_of policy member d) d own); comes = inl refl }

hop_test : ℕ → ℕ → Hop → Bool
hop_test member child h = (h.member.0 == member) && (h.child.0 == child)

lane_is : (member child : ℕ) (hop : Hop) → hop_test member child hop ≡ true → lane_of hop ≡ (member, child)
unfolding hop_test
lane_is member child hop t =
    let a : hop.member.0 ≡ member = eqb-true hop.member.0 member (and_left (hop.member.0 == member) (hop.child.0 == child) t) in
    let b : hop.child.0 ≡ child = eqb-true hop.child.0 child (and_right (hop.member.0 == member) (hop.child.0 == child) t) in
    ap (λ n. let x : ℕ × ℕ = (n, hop.child.0) in x) a ∙ ap (λ n. let x : ℕ × ℕ = (member, n) in x) b

-- along a relay
relayed : (f : ℕ) (replicas : DcSet) (primary : List Near) (hops : List Hop) (member d : ℕ) → ArePrimaries f replicas primary → AreHops replicas primary hops → has replicas d ≡ true → (o : Option Hop) → find (hop_test member d) hops ≡ o → IsCovered (Relay f replicas primary hops) member d
unfolding hop_test
relayed f replicas primary hops member d sound h there None none = itself (Relay f replicas primary hops) member d there (ap (λ (x : Option Hop). option_map_or (λ y. y.parent.0) x d) none)
relayed f replicas primary hops member d sound h there (Some hop) some =
    record {
      parent = p;
      direct = and_from (has replicas p) (parent_of policy member p == p) in_set (eq-eqb (parent_of policy member p) p again);
      comes = by (d == p) refl;
    }
  where
    policy : Policy
    policy = Relay f replicas primary hops

    p : ℕ
    p = hop.parent.0

    from : Contains hops hop × (hop_test member d hop ≡ true)
    from = found_in (hop_test member d) hops hop some

    parent_is : parent_of policy member d ≡ p
    parent_is = ap (λ (x : Option Hop). option_map_or (λ y. y.parent.0) x d) some

    first : Hop
    first = record { member = hop.member; child = hop.parent; parent = hop.parent }

    is_first : Contains hops first
    is_first = All-contains (λ x. IsDirect hops x.member x.parent) hops hop h.direct_parents from.0

    of_member : hop.member.0 ≡ member
    of_member = ap (λ (x : ℕ × ℕ). x.0) (lane_is member d hop from.1)

    passes : hop_test member p first ≡ true
    passes = and_from (hop.member.0 == member) (p == p) (eq-eqb hop.member.0 member of_member) (eq-eqb p p refl)

    apart : AllPairs Apart (map lane_of hops)
    apart = subst (AllPairs Apart) (sym h.lanes) (lanes_apart replicas primary sound.centres.distinct)

    again : parent_of policy member p ≡ p
    again =
        let some_is = finds_some (hop_test member p) hops first is_first passes in
        let found = found_in (hop_test member p) hops some_is.0 some_is.1 in
        let same : some_is.0 ≡ first = one_hop hops apart some_is.0 first found.0 is_first (lane_is member p some_is.0 found.1 ∙ sym (lane_is member p first passes)) in
        ap (λ (x : Option Hop). option_map_or (λ y. y.parent.0) x p) some_is.1 ∙ ap (λ (x : Hop). x.parent.0) same

    in_set : has replicas p ≡ true
    in_set =
        let lane = in_flat_map (λ (n : Near). lanes_of replicas n.member.0) primary (lane_of first) (subst (λ (x : List (ℕ × ℕ)). Contains x (lane_of first)) h.lanes (into_map lane_of hops first is_first)) in
        All-contains (λ e. has replicas e ≡ true) (centres_of replicas) p (All-centres_of replicas) (lane_in lane.0.member.0 (centres_of replicas) (lane_of first) lane.2).1

    by : (b : Bool) → (d == p) ≡ b → (d ≡ p) ⊎ (is_onward policy member p d ≡ true)
    by true is = inl (eqb-true d p is)
    by false is = inr (and_from (has replicas d && (parent_of policy member d == p)) (not (d == p)) (and_from (has replicas d) (parent_of policy member d == p) there (eq-eqb (parent_of policy member d) p parent_is)) (rw is refl))

-- every replica of a sound policy is covered
pub covered : (policy : Policy) (member d : ℕ) → IsSoundPolicy policy → has (replicas_of policy) d ≡ true → IsCovered policy member d
covered (Direct f replicas primary) member d sound there = itself (Direct f replicas primary) member d there refl
covered (Strong f replicas members) member d sound there = itself (Strong f replicas members) member d there refl
covered (Relay f replicas primary hops) member d sound there = relayed f replicas primary hops member d sound.0 sound.1 there (find (hop_test member d) hops) refl
