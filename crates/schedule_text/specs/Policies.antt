-- What the words of a policy say.
use Rattle.std.specs.Prelude.{ℕ, ◌-◌, ◌==◌, if◌then◌else◌, List, [], ◌∷◌, ◌++◌, codes, fold, Result, Ok, Err}
use Rattle.span_base.specs.DcSet.{no_centre, join}
use Rattle.span_base.specs.declared.dc_set.DcSet.{DcSet}
use Rattle.span_base.specs.declared.words.What.TheVariants as what
use Rattle.span_base.specs.declared.policy.Near.{Near}
use Rattle.span_base.specs.declared.policy.Hop.{Hop}
use Rattle.span_base.specs.declared.policy.Quorum.{Quorum}
use Rattle.span_base.specs.declared.policy.Policy.{Policy}
use Rattle.span_base.specs.declared.policy.Policy.TheVariants as policy
use Rattle.schedule_text.specs.declared.flaw.Flaw.{Flaw}
use Rattle.schedule_text.specs.declared.flaw.Flaw.TheVariants.{Syntax, Limit}
use Rattle.schedule_text.specs.declared.lanes.Lanes.{Lanes}
use Rattle.schedule_text.specs.Flaws.{both, made, after, formed, listed}
use Rattle.schedule_text.specs.Words.{split_at, is_word, two, three}
use Rattle.schedule_text.specs.Numbers.{number_says, centre_says, replica_says, replicas_say}

-- the failures that a set stands
abbrev pub tolerance_says : List ℕ → Result ℕ Flaw
tolerance_says text = number_says what.F 3 text

-- there is room for one member more
abbrev pub has_room : ℕ → Result Unit Flaw
has_room room = if room == 0 then Err (Limit what.Members 9) else Ok tt

-- MEMBER/READ/WRITE
unfoldable pub quorum_says : ℕ → List ℕ → Result Quorum Flaw
quorum_says replicas word =
    formed (three (split_at 47 word)) (λ parts. made (λ it. record { dc = it.0.0; read = it.0.1; write = it.1 })
    (both (both (centre_says parts.0) (replicas_say replicas parts.1)) (replicas_say replicas parts.2)))

-- MEMBER>PRIMARY
abbrev pub near_of : List ℕ × List ℕ → Result Near Flaw
near_of parts = made (λ it. record { member = it.0; at = it.1 }) (both (centre_says parts.0) (centre_says parts.1))

unfoldable pub near_says : List ℕ → Result Near Flaw
near_says word = formed (two (split_at 62 word)) near_of

-- these quorums and those of the words, while there is room
unfoldable pub quorums_from : ℕ → ℕ → Result (List Quorum) Flaw → List (List ℕ) → Result (List Quorum) Flaw
quorums_from replicas room quorums [] = quorums
quorums_from replicas room quorums (word ∷ words) = quorums_from replicas (room - 1) (listed quorums (after (has_room room) (quorum_says replicas word))) words

-- these primaries and those of the words, while there is room
unfoldable pub nears_from : ℕ → Result (List Near) Flaw → List (List ℕ) → Result (List Near) Flaw
nears_from room nears [] = nears
nears_from room nears (word ∷ words) = nears_from (room - 1) (listed nears (after (has_room room) (near_says word))) words

-- a member's write to a replica comes from this parent
abbrev pub hop_says : ℕ → Result Near Flaw → List ℕ → List ℕ → Result Hop Flaw
hop_says replicas near child parent =
    made (λ it. record { member = it.0.0.member; child = it.0.1; parent = it.1 }) (both (both near (replica_says replicas child)) (centre_says parent))

abbrev pub with_near : Result Lanes Flaw → Result Near Flaw → Result Lanes Flaw
with_near lanes near = made (λ it. record it.0 { nears = it.0.nears ++ it.1 ∷ [] }) (both lanes near)

abbrev pub with_hop : Result Lanes Flaw → Result Hop Flaw → Result Lanes Flaw
with_hop lanes hop = made (λ it. record it.0 { hops = it.0.hops ++ it.1 ∷ [] }) (both lanes hop)

-- these hops and those from the parents, one parent for each replica
unfoldable pub hops_from : ℕ → Result Near Flaw → Result Lanes Flaw → List (List ℕ) → List (List ℕ) → Result Lanes Flaw
hops_from replicas near lanes [] [] = lanes
hops_from replicas near lanes [] (parent ∷ parents) = Err Syntax
hops_from replicas near lanes (child ∷ children) [] = Err Syntax
hops_from replicas near lanes (child ∷ children) (parent ∷ parents) =
    hops_from replicas near (with_hop lanes (hop_says replicas near child parent)) children parents

-- these lanes and those of a member: MEMBER>PRIMARY>PARENTS
unfoldable pub with_member : ℕ → List (List ℕ) → ℕ → Result Lanes Flaw → List ℕ → Result Lanes Flaw
with_member replicas children room lanes word =
    formed (three (split_at 62 word)) (λ parts. let near = near_of (parts.0, parts.1) in
    hops_from replicas near (with_near lanes (after (has_room room) near)) children (split_at 44 parts.2))

-- these lanes and those of the words, while there is room
unfoldable pub lanes_from : ℕ → List (List ℕ) → ℕ → Result Lanes Flaw → List (List ℕ) → Result Lanes Flaw
lanes_from replicas children room lanes [] = lanes
lanes_from replicas children room lanes (word ∷ words) = lanes_from replicas children (room - 1) (with_member replicas children room lanes word) words

-- the centres that some member reads from or writes to
abbrev pub asked : DcSet → Quorum → DcSet
asked set quorum = join (join set quorum.read) quorum.write

abbrev pub union_of : List Quorum → DcSet
union_of quorums = fold asked no_centre quorums

unfoldable pub strong_says : ℕ → List (List ℕ) → Result Policy Flaw
strong_says replicas [] = Err Syntax
strong_says replicas (f ∷ members) =
    made (λ it. policy.Strong it.0 (union_of it.1) it.1) (both (tolerance_says f) (quorums_from replicas 8 (Ok []) members))

unfoldable pub direct_says : ℕ → List (List ℕ) → Result Policy Flaw
direct_says replicas [] = Err Syntax
direct_says replicas (f ∷ []) = Err Syntax
direct_says replicas (f ∷ set ∷ members) =
    made (λ it. policy.Direct it.0.0 it.0.1 it.1) (both (both (tolerance_says f) (replicas_say replicas set)) (nears_from 8 (Ok []) members))

unfoldable pub relay_says : ℕ → List (List ℕ) → Result Policy Flaw
relay_says replicas [] = Err Syntax
relay_says replicas (f ∷ []) = Err Syntax
relay_says replicas (f ∷ set ∷ members) =
    made (λ it. policy.Relay it.0.0 it.0.1 it.1.nears it.1.hops)
    (both (both (tolerance_says f) (replicas_say replicas set)) (lanes_from replicas (split_at 44 set) 8 (Ok (record { nears = []; hops = [] })) members))

-- what the words of a policy say, of a store with so many replicas
unfoldable pub policy_says : ℕ → List (List ℕ) → Result Policy Flaw
policy_says replicas [] = Err Syntax
policy_says replicas (mode ∷ words) =
    if is_word mode (codes "strong") then strong_says replicas words
    else if is_word mode (codes "direct") then direct_says replicas words
    else if is_word mode (codes "relay") then relay_says replicas words
    else Err Syntax
