-- The test of soundness tells the sound policies.
use Rattle.std.proofs.Common.{◌≡◌, ◌≢◌, ℕ, zero, suc, ◌+◌, ◌*◌, ◌<◌, ◌≤◌, inl, inr, Bool, true, false, cond, ◌&&◌, ◌||◌, not, ◌==◌, nat_lt, nat_le, IsTrue, ◌↔◌, List, [], ◌∷◌, length, map, get_or, Decides, zero-add, refl, sym, ap, ◌∙◌, subst, arith}
use Rattle.std.specs.List.{All, AllPairs, Contains, flat_map, list_all, list_any, range_with_len}
use Rattle.std.proofs.lemmas.Bool.{cases_lt, le-ltb}
use Rattle.std.proofs.lemmas.Bool.Decides.{nat_tests, Decides-eqb, Decides-ltb, Decides-like, Decides-not, Decides-and, Decides-by_and, Decides-by_or}
use Rattle.std.proofs.lemmas.List.Elements.{Decides-contains}
use Rattle.std.proofs.lemmas.List.FromFn.{get_or-range_with_len}
use Rattle.span_base.specs.declared.dc_set.DcSet.{DcSet}
use Rattle.span_base.specs.DcSet.{has, centres_of}
use Rattle.span_base.specs.declared.policy.Near.{Near}
use Rattle.span_base.specs.declared.policy.Hop.{Hop}
use Rattle.span_base.specs.declared.policy.Quorum.{Quorum}
use Rattle.span_base.specs.declared.policy.Policy.{Policy}
use Rattle.span_base.specs.declared.policy.Policy.TheVariants.{Direct, Relay, Strong}
use Rattle.span_base.specs.Policy.{AreMembers, Meets, IsUnion, AreQuorums, ArePrimaries, IsDirect, lane_of, lanes_of, AreHops, IsSoundPolicy, common_count}
use Rattle.wire_msg.specs.Sound.{are_distinct, are_members, are_primaries, are_same, is_direct, are_hops, is_asked_rightly, are_quorums, is_sound_policy}
use Rattle.wire_msg.proofs.HopLoop.{hop_from}

decide_le : (a b : ℕ) → Decides (nat_le a b) (a ≤ b)
decide_le a b = (λ e. grind (arith, nat_tests), λ h. grind (arith, nat_tests))

decide_all : {X : Type 0} (p : X → Bool) (P : X → Type 0) → ((x : X) → Decides (p x) (P x)) → (xs : List X) → Decides (list_all p xs) (All P xs)
decide_all p P each xs = Decides-by_and p P (list_all p) each refl (λ _ _. refl) xs

-- ---- centres that are all different

abbrev Differ : ℕ → ℕ → Type 0
Differ c d = c ≢ d

pairs-cons : (c : ℕ) (cs : List ℕ) → All (Differ c) cs → AllPairs Differ cs → AllPairs Differ (c ∷ cs)
pairs-cons c cs first others zero zero d order within = absurd (omega arith)
pairs-cons c cs first others zero (suc j) d order within = first j d (omega arith)
pairs-cons c cs first others (suc i) zero d order within = absurd (omega arith)
pairs-cons c cs first others (suc i) (suc j) d order within = others i j d (omega arith) (omega arith)

pairs-head : (c : ℕ) (cs : List ℕ) → AllPairs Differ (c ∷ cs) → All (Differ c) cs
pairs-head c cs all k d within = all 0 (suc k) d (omega arith) (omega arith)

pairs-tail : (c : ℕ) (cs : List ℕ) → AllPairs Differ (c ∷ cs) → AllPairs Differ cs
pairs-tail c cs all i j d order within = all (suc i) (suc j) d (omega arith) (omega arith)

decide_distinct : (cs : List ℕ) → Decides (are_distinct cs) (AllPairs Differ cs)
decide_distinct [] = (λ e i j d order within. absurd (omega arith), λ h. refl)
decide_distinct (c ∷ cs) =
    Decides-like _ (λ p. pairs-cons c cs p.0 p.1) (λ h. (pairs-head c cs h, pairs-tail c cs h))
    (Decides-and _ _ (decide_all (λ d. not (c == d)) (Differ c) (λ d. Decides-not _ (Decides-eqb c d)) cs) (decide_distinct cs))

decide_members : (cs : List ℕ) → Decides (are_members cs) (AreMembers cs)
decide_members cs =
    Decides-like _ (λ p. record { some = p.0; few = p.1.0; distinct = p.1.1.0; below = p.1.1.1 }) (λ h. (h.some, (h.few, (h.distinct, h.below))))
    (Decides-and _ _ (Decides-ltb 0 (length cs)) (Decides-and _ _ (decide_le (length cs) 8) (Decides-and _ _ (decide_distinct cs) (decide_all (λ c. nat_lt c 16) (λ c. c < 16) (λ c. Decides-ltb c 16) cs))))

-- ---- primaries

decide_true : (b : Bool) → Decides b (IsTrue b)
decide_true b = (λ e. e, λ h. h)

decide_primaries : (f : ℕ) (replicas : DcSet) (primary : List Near) → Decides (are_primaries f replicas primary) (ArePrimaries f replicas primary)
decide_primaries f replicas primary =
    Decides-like _ (λ p. record { tolerance = p.0; centres = p.1.0; enough = p.1.1.0; replica = p.1.1.1 }) (λ h. (h.tolerance, (h.centres, (h.enough, h.replica))))
    (Decides-and _ _ (decide_le f 3) (Decides-and _ _ (decide_members (map (λ n. n.member.0) primary)) (Decides-and _ _ (decide_le (f + 1) (length (centres_of replicas))) (decide_all (λ n. has replicas n.at.0) (λ n. IsTrue (has replicas n.at.0)) (λ n. decide_true (has replicas n.at.0)) primary))))

-- ---- hops

decide_same : (ps qs : List (ℕ × ℕ)) → Decides (are_same ps qs) (ps ≡ qs)
decide_same [] [] = (λ e. refl, λ h. refl)
decide_same [] (q ∷ qs) = (λ e. absurd cc, λ h. absurd cc)
decide_same (p ∷ ps) [] = (λ e. absurd cc, λ h. absurd cc)
decide_same (p ∷ ps) (q ∷ qs) =
    let eta : (x y : ℕ × ℕ) → x.0 ≡ y.0 → x.1 ≡ y.1 → x ≡ y = λ x y d e. ap (λ a. let z : ℕ × ℕ = (a, x.1) in z) d ∙ ap (λ b. let z : ℕ × ℕ = (y.0, b) in z) e in
    Decides-like _ (λ h. ap (λ x. x ∷ ps) (eta p q h.0.0 h.0.1) ∙ ap (λ xs. q ∷ xs) h.1) (λ h. let heads : p ≡ q = cc in let tails : ps ≡ qs = cc in ((ap (λ x. x.0) heads, ap (λ x. x.1) heads), tails))
    (Decides-and _ _ (Decides-and _ _ (Decides-eqb p.0 q.0) (Decides-eqb p.1 q.1)) (decide_same ps qs))

decide_hop : (hop : Hop) (member child parent : ℕ) → Decides (hop.member.0 == member && (hop.child.0 == child && hop.parent.0 == parent)) (hop ≡ hop_from member child parent)
decide_hop hop member child parent =
    Decides-like _
    (λ p. ap (λ n. hop_from n hop.child.0 hop.parent.0) p.0 ∙ ap (λ n. hop_from member n hop.parent.0) p.1.0 ∙ ap (λ n. hop_from member child n) p.1.1)
    (λ e. (ap (λ (h : Hop). h.member.0) e, (ap (λ (h : Hop). h.child.0) e, ap (λ (h : Hop). h.parent.0) e)))
    (Decides-and _ _ (Decides-eqb hop.member.0 member) (Decides-and _ _ (Decides-eqb hop.child.0 child) (Decides-eqb hop.parent.0 parent)))

decide_direct : (hops : List Hop) (member at : ℕ) → Decides (is_direct hops member at) (Contains hops (hop_from member at at))
decide_direct hops member at =
    Decides-contains hops (hop_from member at at) (is_direct hops member at)
    (Decides-by_or (λ hop. hop.member.0 == member && (hop.child.0 == at && hop.parent.0 == at)) (λ hop. hop ≡ hop_from member at at) (list_any (λ hop. hop.member.0 == member && (hop.child.0 == at && hop.parent.0 == at))) (λ hop. decide_hop hop member at at) refl (λ _ _. refl) hops)

decide_hops : (replicas : DcSet) (primary : List Near) (hops : List Hop) → Decides (are_hops replicas primary hops) (AreHops replicas primary hops)
decide_hops replicas primary hops =
    Decides-like _ (λ p. record { lanes = p.0; direct_parents = p.1 }) (λ h. (h.lanes, h.direct_parents))
    (Decides-and _ _ (decide_same (map lane_of hops) (flat_map (λ n. lanes_of replicas n.member.0) primary)) (decide_all (λ hop. is_direct hops hop.member.0 hop.parent.0) (λ h. IsDirect hops h.member h.parent) (λ hop. decide_direct hops hop.member.0 hop.parent.0) hops))

-- ---- quorums

decide_equal : (a b : Bool) → Decides (cond b a (not a)) (a ≡ b)
decide_equal true true = (λ e. refl, λ h. refl)
decide_equal false false = (λ e. refl, λ h. refl)
decide_equal true false = (λ e. absurd cc, λ h. absurd cc)
decide_equal false true = (λ e. absurd cc, λ h. absurd cc)

has_none : (s : DcSet) (d : ℕ) → 16 ≤ d → has s d ≡ false
has_none s d h = let past : nat_lt d 16 ≡ false = le-ltb d 16 h in rw past refl

asked_none : (members : List Quorum) (d : ℕ) → 16 ≤ d → list_any (λ q. has q.read d || has q.write d) members ≡ false
asked_none [] d h = refl
asked_none (q ∷ qs) d h = rw (has_none q.read d h, has_none q.write d h) (asked_none qs d h)

union-from : (replicas : DcSet) (members : List Quorum) → All (λ d. has replicas d ≡ list_any (λ q. has q.read d || has q.write d) members) (range_with_len 0 16) → IsUnion replicas members
union-from replicas members all d =
    elim (cases_lt d 16) [
      | inl below ↦ subst (λ x. has replicas x ≡ list_any (λ q. has q.read x || has q.write x) members) (get_or-range_with_len 0 16 d 0 below ∙ zero-add d) (all d 0 below)
      | inr past ↦ has_none replicas d past ∙ sym (asked_none members d past)
    ]

decide_union : (replicas : DcSet) (members : List Quorum) → Decides (list_all (is_asked_rightly replicas members) (range_with_len 0 16)) (IsUnion replicas members)
decide_union replicas members =
    Decides-like _ (union-from replicas members) (λ h k d within. h (get_or (range_with_len 0 16) k d))
    (decide_all (is_asked_rightly replicas members) (λ d. has replicas d ≡ list_any (λ q. has q.read d || has q.write d) members) (λ d. decide_equal (has replicas d) (list_any (λ q. has q.read d || has q.write d) members)) (range_with_len 0 16))

decide_meets : (many : ℕ) (a b : Quorum) → Decides (nat_le many (common_count a.read b.write) && nat_le many (common_count a.write b.write)) (Meets many a b)
decide_meets many a b = Decides-and _ _ (decide_le many (common_count a.read b.write)) (decide_le many (common_count a.write b.write))

decide_quorums : (f : ℕ) (replicas : DcSet) (members : List Quorum) → Decides (are_quorums f replicas members) (AreQuorums f replicas members)
decide_quorums f replicas members =
    Decides-like _ (λ p. record { tolerance = p.0; centres = p.1.0; union = p.1.1.0; quorums_meet = p.1.1.1 }) (λ h. (h.tolerance, (h.centres, (h.union, h.quorums_meet))))
    (Decides-and _ _ (decide_le f 3) (Decides-and _ _ (decide_members (map (λ q. q.dc.0) members)) (Decides-and _ _ (decide_union replicas members)
    (decide_all _ (λ a. All (λ b. Meets (2 * f + 1) a b) members) (λ a. decide_all _ (λ b. Meets (2 * f + 1) a b) (λ b. decide_meets (2 * f + 1) a b) members) members))))

pub decide_sound : (policy : Policy) → Decides (is_sound_policy policy) (IsSoundPolicy policy)
unfolding is_sound_policy
decide_sound (Direct f replicas primary) = decide_primaries f replicas primary
decide_sound (Relay f replicas primary parent) = Decides-and _ _ (decide_primaries f replicas primary) (decide_hops replicas primary parent)
decide_sound (Strong f replicas members) = decide_quorums f replicas members

-- what the code's test answers is what this test answers
pub sound_is : (policy : Policy) (b : Bool) → (IsTrue b ↔ IsSoundPolicy policy) → b ≡ is_sound_policy policy
sound_is policy true same = sym ((decide_sound policy).1 (same.0 refl))
sound_is policy false same = elim (is_sound_policy policy) as (λ v. (v ≡ true → IsSoundPolicy policy) → false ≡ v) [ true ↦ λ back. same.1 (back refl) | false ↦ λ back. refl ] (decide_sound policy).0
