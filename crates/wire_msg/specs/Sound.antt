-- Soundness of a policy, as a test.
use Rattle.std.specs.Prelude.{ℕ, ◌+◌, ◌*◌, Bool, true, false, ◌&&◌, ◌||◌, not, if◌then◌else◌, ◌==◌, nat_lt, nat_le, List, [], ◌∷◌, length, map}
use Rattle.std.specs.List.{list_all, list_any, flat_map, range_with_len}
use Rattle.span_base.specs.declared.dc_set.DcSet.{DcSet}
use Rattle.span_base.specs.DcSet.{has, centres_of}
use Rattle.span_base.specs.Policy.{common_count, lane_of, lanes_of}
use Rattle.span_base.specs.declared.policy.Near.{Near}
use Rattle.span_base.specs.declared.policy.Hop.{Hop}
use Rattle.span_base.specs.declared.policy.Quorum.{Quorum}
use Rattle.span_base.specs.declared.policy.Policy.{Policy}
use Rattle.span_base.specs.declared.policy.Policy.TheVariants.{Direct, Relay, Strong}

-- no two are equal
abbrev pub are_distinct : List ℕ → Bool
are_distinct [] = true
are_distinct (c ∷ cs) = list_all (λ d. not (c == d)) cs && are_distinct cs

-- 1 to 8 centres, all different
abbrev pub are_members : List ℕ → Bool
are_members centres = nat_lt 0 (length centres) && (nat_le (length centres) 8 && (are_distinct centres && list_all (λ c. nat_lt c 16) centres))

-- f + 1 replicas at least, and for each member a primary among them
abbrev pub are_primaries : ℕ → DcSet → List Near → Bool
are_primaries f replicas primary =
    nat_le f 3 && (are_members (map (λ n. n.member.0) primary) && (nat_le (f + 1) (length (centres_of replicas)) && list_all (λ n. has replicas n.at.0) primary))

-- the same pairs
abbrev pub are_same : List (ℕ × ℕ) → List (ℕ × ℕ) → Bool
are_same [] [] = true
are_same [] (q ∷ qs) = false
are_same (p ∷ ps) [] = false
are_same (p ∷ ps) (q ∷ qs) = (p.0 == q.0 && p.1 == q.1) && are_same ps qs

-- the member writes to this replica itself
abbrev pub is_direct : List Hop → ℕ → ℕ → Bool
is_direct hops member at = list_any (λ hop. hop.member.0 == member && (hop.child.0 == at && hop.parent.0 == at)) hops

-- the hops of each member in its turn, none from a replica that has the write from another one
abbrev pub are_hops : DcSet → List Near → List Hop → Bool
are_hops replicas primary hops =
    are_same (map lane_of hops) (flat_map (λ n. lanes_of replicas n.member.0) primary) && list_all (λ hop. is_direct hops hop.member.0 hop.parent.0) hops

-- whether the centre is in the set exactly where a member asks it
abbrev pub is_asked_rightly : DcSet → List Quorum → ℕ → Bool
is_asked_rightly replicas members d =
    if list_any (λ q. has q.read d || has q.write d) members then has replicas d else not (has replicas d)

-- quorums each two of which meet
abbrev pub are_quorums : ℕ → DcSet → List Quorum → Bool
are_quorums f replicas members =
    nat_le f 3
    && (are_members (map (λ q. q.dc.0) members)
    && (list_all (is_asked_rightly replicas members) (range_with_len 0 16)
    && list_all (λ a. list_all (λ b. nat_le (2 * f + 1) (common_count a.read b.write) && nat_le (2 * f + 1) (common_count a.write b.write)) members) members))

-- whether a set of keys may have the policy
unfoldable pub is_sound_policy : Policy → Bool
is_sound_policy (Direct f replicas primary) = are_primaries f replicas primary
is_sound_policy (Relay f replicas primary parent) = are_primaries f replicas primary && are_hops replicas primary parent
is_sound_policy (Strong f replicas members) = are_quorums f replicas members
