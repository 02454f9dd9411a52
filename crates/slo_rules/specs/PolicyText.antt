-- How a policy is written: the line of its replicas, and one for each member or hop.
use Rattle.std.specs.Prelude.{◌≡◌, ℕ, ◌<◌, true, List, ◌∷◌, ◌++◌, map, codes, All}
use Rattle.std.specs.List.{flat_map}
use Rattle.span_base.specs.declared.dc_set.DcSet.{DcSet}
use Rattle.span_base.specs.DcSet.{centres_of}
use Rattle.span_base.specs.declared.policy.Policy.{Policy}
use Rattle.span_base.specs.declared.policy.Policy.TheVariants.{Direct, Relay, Strong}
use Rattle.span_base.specs.declared.policy.Near.{Near}
use Rattle.span_base.specs.declared.policy.Hop.{Hop}
use Rattle.span_base.specs.declared.policy.Quorum.{Quorum}
use Rattle.workload.specs.World.{Lists, centre_count, name_of}
use Rattle.slo_rules.specs.Rules.{lies_below}

-- the names of a set's centres, in world order, each behind a space
abbrev pub names_text : Lists → DcSet → List ℕ
names_text w set = flat_map (λ dc. codes " " ++ name_of w dc) (centres_of set)

-- the line of the replicas, without its line feed, as all lines here
abbrev pub replicas_line : Lists → DcSet → List ℕ
replicas_line w replicas = codes "replicas" ++ names_text w replicas

-- the line of a member's primary
abbrev pub primary_line : Lists → Near → List ℕ
primary_line w near = codes "primary " ++ name_of w near.member.0 ++ codes " " ++ name_of w near.at.0

-- the line of a hop
abbrev pub hop_line : Lists → Hop → List ℕ
hop_line w hop =
    codes "parent " ++ name_of w hop.member.0 ++ codes " " ++ name_of w hop.child.0 ++ codes " " ++ name_of w hop.parent.0

-- the line of a member's quorums
abbrev pub quorum_line : Lists → Quorum → List ℕ
quorum_line w q =
    codes "quorum " ++ name_of w q.dc.0 ++ codes " read" ++ names_text w q.read ++ codes " ; write" ++ names_text w q.write

-- the lines of a policy, in order
abbrev pub policy_lines : Lists → Policy → List (List ℕ)
policy_lines w (Direct f replicas primary) = replicas_line w replicas ∷ map (primary_line w) primary
policy_lines w (Relay f replicas primary parent) =
    replicas_line w replicas ∷ (map (primary_line w) primary ++ map (hop_line w) parent)
policy_lines w (Strong f replicas members) = replicas_line w replicas ∷ map (quorum_line w) members

-- a line with its line feed
abbrev pub ended : List ℕ → List ℕ
ended line = line ++ codes "\n"

-- the text of a policy: its lines, each with its line feed
abbrev pub policy_text : Lists → Policy → List ℕ
policy_text w p = flat_map ended (policy_lines w p)

-- a member and its primary are two of the first `n` centres
pub record IsNearWithin (n : ℕ) (near : Near) : Type 0 where
  pub member : near.member.0 < n
  pub at : near.at.0 < n

-- the three centres of a hop are among the first `n`
pub record IsHopWithin (n : ℕ) (hop : Hop) : Type 0 where
  pub member : hop.member.0 < n
  pub child : hop.child.0 < n
  pub parent : hop.parent.0 < n

-- a member and its quorums are among the first `n` centres
pub record IsQuorumWithin (n : ℕ) (q : Quorum) : Type 0 where
  pub dc : q.dc.0 < n
  pub read : lies_below n q.read ≡ true
  pub write : lies_below n q.write ≡ true

-- every centre that a policy names is the world's
abbrev pub NamesCentres : Lists → Policy → Type 0
NamesCentres w (Direct f replicas primary) =
    (lies_below (centre_count w) replicas ≡ true) × All (IsNearWithin (centre_count w)) primary
NamesCentres w (Relay f replicas primary parent) =
    (lies_below (centre_count w) replicas ≡ true)
    × All (IsNearWithin (centre_count w)) primary
    × All (IsHopWithin (centre_count w)) parent
NamesCentres w (Strong f replicas members) =
    (lies_below (centre_count w) replicas ≡ true) × All (IsQuorumWithin (centre_count w)) members
