-- Which policies are lawful. A member, a replica and a primary are numbers of centres.
use Rattle.std.specs.Prelude.{◌≡◌, ◌≢◌, ℕ, ◌+◌, ◌*◌, ◌<◌, ◌≤◌, ◌||◌, List, map, length, IsTrue}
use Rattle.std.specs.List.{All, AllPairs, Contains, flat_map, list_any}
use Rattle.span_base.specs.DcSet.{DcSet, has, centres_of, meet}
use Rattle.span_base.specs.declared.ids.DcId.{DcId}
use Rattle.span_base.specs.declared.policy.Near.{Near}
use Rattle.span_base.specs.declared.policy.Hop.{Hop}
use Rattle.span_base.specs.declared.policy.Quorum.{Quorum}
use Rattle.span_base.specs.declared.policy.Policy.{Policy}
use Rattle.span_base.specs.declared.policy.Policy.TheVariants.{Direct, Relay, Strong}

-- 1 to 8 centres, all different
pub record AreMembers (centres : List ℕ) : Type 0 where
  pub some : 0 < length centres
  pub few : length centres ≤ 8
  pub distinct : AllPairs (λ c d. c ≢ d) centres
  pub below : All (λ c. c < 16) centres

-- how many centres are in both sets
abbrev pub common_count : DcSet → DcSet → ℕ
common_count s t = length (centres_of (meet s t))

-- what a reads with and what a writes with each have this many replicas with what b writes with
abbrev pub Meets : ℕ → Quorum → Quorum → Type 0
Meets many a b = (many ≤ common_count a.read b.write) × (many ≤ common_count a.write b.write)

-- the set has the centres that some member reads from or writes to, and no others
abbrev pub IsUnion : DcSet → List Quorum → Type 0
IsUnion replicas members = (d : ℕ) → has replicas d ≡ list_any (λ q. has q.read d || has q.write d) members

-- the quorums of the members, each two of which meet so that f replicas may fail
pub record AreQuorums (f : ℕ) (replicas : DcSet) (members : List Quorum) : Type 0 where
  pub tolerance : f ≤ 3
  pub centres : AreMembers (map (λ q. q.dc.0) members)
  pub union : IsUnion replicas members
  pub quorums_meet : All (λ a. All (λ b. Meets (2 * f + 1) a b) members) members

-- f + 1 replicas at least, and for each member a primary among them
pub record ArePrimaries (f : ℕ) (replicas : DcSet) (primary : List Near) : Type 0 where
  pub tolerance : f ≤ 3
  pub centres : AreMembers (map (λ n. n.member.0) primary)
  pub enough : f + 1 ≤ length (centres_of replicas)
  pub replica : All (λ n. IsTrue (has replicas n.at.0)) primary

-- the member writes to this replica itself
abbrev pub IsDirect : List Hop → DcId → DcId → Type 0
IsDirect hops member at = Contains hops (record { member = member; child = at; parent = at })

-- whose write a hop carries, and where to
abbrev pub lane_of : Hop → ℕ × ℕ
lane_of hop = (hop.member.0, hop.child.0)

-- a member's writes to each replica, in rising order
abbrev pub lanes_of : DcSet → ℕ → List (ℕ × ℕ)
lanes_of replicas member = map (λ d. (member, d)) (centres_of replicas)

-- the hops of each member in its turn, one for each replica, none from a replica that has the
-- write from another one
pub record AreHops (replicas : DcSet) (primary : List Near) (hops : List Hop) : Type 0 where
  pub lanes : map lane_of hops ≡ flat_map (λ n. lanes_of replicas n.member.0) primary
  pub direct_parents : All (λ h. IsDirect hops h.member h.parent) hops

-- a strong policy whose quorums meet
abbrev pub IsQuorumPolicy : Policy → Type 0
IsQuorumPolicy (Direct f replicas primary) = ⊥
IsQuorumPolicy (Relay f replicas primary parent) = ⊥
IsQuorumPolicy (Strong f replicas members) = AreQuorums f replicas members

-- a policy that a set of keys may have
abbrev pub IsSoundPolicy : Policy → Type 0
IsSoundPolicy (Direct f replicas primary) = ArePrimaries f replicas primary
IsSoundPolicy (Relay f replicas primary parent) = ArePrimaries f replicas primary × AreHops replicas primary parent
IsSoundPolicy (Strong f replicas members) = AreQuorums f replicas members
