-- What an allowed policy names is there to be named.
use Rattle.std.proofs.Common.{◌≡◌, ℕ, ◌<◌, Bool, true, false, ◌&&◌, ◌==◌, List, [], ◌∷◌, length, map, Option, Some, None, refl, sym, ◌∙◌}
use Rattle.std.specs.Prelude.{nat_lt}
use Rattle.std.specs.List.{All, list_all}
use Rattle.std.specs.Cmp.Lexicographic.{same_text}
use Rattle.std.proofs.lemmas.Bool.{and_parts, ltb-true, eqb-true}
use Rattle.std.proofs.lemmas.List.Elements.{All-nil, All-cons, All-head, All-tail, All-append, All-same}
use Rattle.span_base.specs.DcSet.{centres_of}
use Rattle.span_base.specs.declared.policy.Policy.{Policy}
use Rattle.span_base.specs.declared.policy.Policy.TheVariants.{Direct, Relay, Strong}
use Rattle.span_base.specs.declared.policy.Near.{Near}
use Rattle.span_base.specs.declared.policy.Hop.{Hop}
use Rattle.span_base.specs.declared.policy.Quorum.{Quorum}
use Rattle.span_base.specs.Policy.{lane_of as lane}
use Rattle.workload.specs.World.{Lists, centre_count, rule_of, members_of, set_of, IsComplete, IsSetWithin, IsDemandWithin}
use Rattle.workload.specs.declared.rules.Demand.{Demand}
use Rattle.workload.specs.Load.{no_set}
use Rattle.slo_rules.specs.declared.rules.Rule.{Rule}
use Rattle.slo_rules.specs.declared.rules.Rule.TheVariants as rule
use Rattle.slo_rules.specs.Rules.{or_else, unless, has_mode, has_shape, has_hops, hops_due, lies_below, primaries_below, same_list, primary_members, quorum_members, centres_asking, breach_of_mode, breach_of_providers, first_broken_rule, IsAllowed}
use Rattle.slo_rules.specs.PolicyText.{NamesCentres, IsNearWithin, IsHopWithin, IsQuorumWithin}
use Rattle.slo_rules.proofs.Hops.{has_hops-cons}

-- the rules that an allowed policy keeps
pub record Keeps (w : Lists) (set : ℕ) (p : Policy) : Type 0 where
  pub mode : has_mode (rule_of w set) p ≡ true
  pub shape : has_shape w set p ≡ true
  pub rules : breach_of_mode w set p ≡ None

pub both-none : (a b : Option Rule) → or_else a b ≡ None → (a ≡ None) × (b ≡ None)
both-none None b e = (refl, e)
both-none (Some r) b e = cc

pub kept : (t : Bool) (r : Rule) → unless t r ≡ None → t ≡ true
kept true r e = refl
kept false r e = cc

pub keeps : (w : Lists) (set : ℕ) (p : Policy) → IsAllowed w set p → Keeps w set p
unfolding first_broken_rule
keeps w set p allowed =
    let a = both-none (unless (has_mode (rule_of w set) p) rule.Mode) (or_else (unless (has_shape w set p) rule.Shape) (or_else (breach_of_mode w set p) (breach_of_providers w set p))) allowed in
    let b = both-none (unless (has_shape w set p) rule.Shape) (or_else (breach_of_mode w set p) (breach_of_providers w set p)) a.1 in
    let c = both-none (breach_of_mode w set p) (breach_of_providers w set p) b.1 in
    record { mode = kept (has_mode (rule_of w set) p) rule.Mode a.0; shape = kept (has_shape w set p) rule.Shape b.0; rules = c.0 }

-- a set of a complete world is in order
pub set_within : (w : Lists) (set : ℕ) → IsComplete w → set < length w.sets → IsSetWithin (centre_count w) (set_of w set)
set_within w set complete inside = complete.sets set no_set inside

-- numbers that a test of all finds below a bound are below it
pub low_all : (n : ℕ) (ds : List ℕ) → list_all (λ d. nat_lt d n) ds ≡ true → All (λ d. d < n) ds
low_all n [] h = All-nil (λ d. d < n)
low_all n (d ∷ ds) h = let parts = and_parts (nat_lt d n) (list_all (λ d. nat_lt d n) ds) h in All-cons (λ d. d < n) d ds (ltb-true d n parts.0) (low_all n ds parts.1)

members_low : (n : ℕ) (members : List Demand) → All (IsDemandWithin n) members → All (λ d. d < n) (centres_asking members)
members_low n [] all = All-nil (λ d. d < n)
members_low n (m ∷ members) all = All-cons (λ d. d < n) m.dc.0 (centres_asking members) ((All-head (IsDemandWithin n) m members all).dc) (members_low n members (All-tail (IsDemandWithin n) m members all))

nears_within : (n : ℕ) (primary : List Near) → primaries_below n primary ≡ true → All (λ d. d < n) (primary_members primary) → All (IsNearWithin n) primary
nears_within n [] h all = All-nil (IsNearWithin n)
nears_within n (near ∷ primary) h all =
    let parts = and_parts (nat_lt near.at.0 n) (primaries_below n primary) h in
    All-cons (IsNearWithin n) near primary
    (record { member = All-head (λ d. d < n) near.member.0 (primary_members primary) all; at = ltb-true near.at.0 n parts.0 })
    (nears_within n primary parts.1 (All-tail (λ d. d < n) near.member.0 (primary_members primary) all))

quorums_within : (n : ℕ) (quorums : List Quorum) → list_all (λ q. lies_below n q.read && lies_below n q.write) quorums ≡ true → All (λ d. d < n) (quorum_members quorums) → All (IsQuorumWithin n) quorums
quorums_within n [] h all = All-nil (IsQuorumWithin n)
quorums_within n (q ∷ quorums) h all =
    let parts = and_parts (lies_below n q.read && lies_below n q.write) (list_all (λ (q : Quorum). lies_below n q.read && lies_below n q.write) quorums) h in
    let sets = and_parts (lies_below n q.read) (lies_below n q.write) parts.0 in
    All-cons (IsQuorumWithin n) q quorums
    (record { dc = All-head (λ d. d < n) q.dc.0 (quorum_members quorums) all; read = sets.0; write = sets.1 })
    (quorums_within n quorums parts.1 (All-tail (λ d. d < n) q.dc.0 (quorum_members quorums) all))

-- the hops go where hops are due
pub lanes_due : (hops : List Hop) (due : List (ℕ × ℕ)) → has_hops hops due ≡ true → map lane hops ≡ due
lanes_due [] [] h = refl
lanes_due [] (p ∷ due) h = cc
lanes_due (hop ∷ hops) [] h = cc
lanes_due (hop ∷ hops) (p ∷ due) h =
    let parts = and_parts (hop.member.0 == p.0 && hop.child.0 == p.1) (has_hops hops due) (sym (has_hops-cons hop hops p.0 p.1 due) ∙ h) in
    let ends = and_parts (hop.member.0 == p.0) (hop.child.0 == p.1) parts.0 in
    let rest : map lane hops ≡ due = lanes_due hops due parts.1 in
    let first : lane hop ≡ p = λ i. (eqb-true hop.member.0 p.0 ends.0 i, eqb-true hop.child.0 p.1 ends.1 i) in
    λ i. first i ∷ rest i

-- both ends of a lane are among the first `n` centres
abbrev IsLaneWithin : ℕ → ℕ × ℕ → Type 0
IsLaneWithin n p = (p.0 < n) × (p.1 < n)

lanes_from : (n m : ℕ) (ds : List ℕ) → m < n → All (λ d. d < n) ds → All (IsLaneWithin n) (map (λ d. (m, d)) ds)
lanes_from n m [] low all = All-nil (IsLaneWithin n)
lanes_from n m (d ∷ ds) low all = All-cons (IsLaneWithin n) (m, d) (map (λ d. (m, d)) ds) (low, All-head (λ d. d < n) d ds all) (lanes_from n m ds low (All-tail (λ d. d < n) d ds all))

due_within : (n : ℕ) (members ds : List ℕ) → All (λ d. d < n) members → All (λ d. d < n) ds → All (IsLaneWithin n) (hops_due members ds)
due_within n [] ds all low = All-nil (IsLaneWithin n)
due_within n (m ∷ members) ds all low =
    All-append (IsLaneWithin n) (map (λ d. (m, d)) ds) (hops_due members ds)
    (lanes_from n m ds (All-head (λ d. d < n) m members all) low)
    (due_within n members ds (All-tail (λ d. d < n) m members all) low)

hops_within : (n : ℕ) (hops : List Hop) → list_all (λ hop. nat_lt hop.parent.0 n) hops ≡ true → All (IsLaneWithin n) (map lane hops) → All (IsHopWithin n) hops
hops_within n [] h all = All-nil (IsHopWithin n)
hops_within n (hop ∷ hops) h all =
    let parts = and_parts (nat_lt hop.parent.0 n) (list_all (λ (hop : Hop). nat_lt hop.parent.0 n) hops) h in
    let first : IsLaneWithin n (lane hop) = All-head (IsLaneWithin n) (lane hop) (map lane hops) all in
    All-cons (IsHopWithin n) hop hops
    (record { member = first.0; child = first.1; parent = ltb-true hop.parent.0 n parts.0 })
    (hops_within n hops parts.1 (All-tail (IsLaneWithin n) (lane hop) (map lane hops) all))

same_low : (n : ℕ) (xs : List ℕ) (members : List Demand) → same_list xs (centres_asking members) ≡ true → All (IsDemandWithin n) members → All (λ d. d < n) xs
same_low n xs members h all = All-same (λ d. d < n) xs (centres_asking members) (same_text xs (centres_asking members) (sym h)) (members_low n members all)

shape_names : (w : Lists) (set : ℕ) (p : Policy) → All (IsDemandWithin (centre_count w)) (members_of w set) → has_shape w set p ≡ true → NamesCentres w p
shape_names w set (Direct f replicas primary) all h =
    let n = centre_count w in
    let a = and_parts (lies_below n replicas && primaries_below n primary) (same_list (primary_members primary) (centres_asking (members_of w set))) h in
    let b = and_parts (lies_below n replicas) (primaries_below n primary) a.0 in
    (b.0, nears_within n primary b.1 (same_low n (primary_members primary) (members_of w set) a.1 all))
shape_names w set (Relay f replicas primary parent) all h =
    let n = centre_count w in
    let asked = centres_asking (members_of w set) in
    let due = hops_due asked (centres_of replicas) in
    let a = and_parts (lies_below n replicas && primaries_below n primary && list_all (λ (hop : Hop). nat_lt hop.parent.0 n) parent && same_list (primary_members primary) asked) (has_hops parent due) h in
    let b = and_parts (lies_below n replicas && primaries_below n primary && list_all (λ (hop : Hop). nat_lt hop.parent.0 n) parent) (same_list (primary_members primary) asked) a.0 in
    let c = and_parts (lies_below n replicas && primaries_below n primary) (list_all (λ (hop : Hop). nat_lt hop.parent.0 n) parent) b.0 in
    let d = and_parts (lies_below n replicas) (primaries_below n primary) c.0 in
    let lanes : All (IsLaneWithin n) due = due_within n asked (centres_of replicas) (members_low n (members_of w set) all) (low_all n (centres_of replicas) d.0) in (
      d.0,
      nears_within n primary d.1 (same_low n (primary_members primary) (members_of w set) b.1 all),
      hops_within n parent c.1 (All-same (IsLaneWithin n) (map lane parent) due (lanes_due parent due a.1) lanes),
    )
shape_names w set (Strong f replicas members) all h =
    let n = centre_count w in
    let a = and_parts (lies_below n replicas && list_all (λ (q : Quorum). lies_below n q.read && lies_below n q.write) members) (same_list (quorum_members members) (centres_asking (members_of w set))) h in
    let b = and_parts (lies_below n replicas) (list_all (λ (q : Quorum). lies_below n q.read && lies_below n q.write) members) a.0 in
    (b.0, quorums_within n members b.1 (same_low n (quorum_members members) (members_of w set) a.1 all))

-- an allowed policy names centres of its world
pub allowed_names : (w : Lists) (set : ℕ) (p : Policy) → IsComplete w → set < length w.sets → IsAllowed w set p → NamesCentres w p
allowed_names w set p complete inside allowed = shape_names w set p ((set_within w set complete inside).members) ((keeps w set p allowed).shape)
