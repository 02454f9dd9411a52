-- How many members and hops a sound policy has.
use Rattle.std.proofs.Common.{◌≡◌, ℕ, ◌*◌, ◌≤◌, List, [], ◌∷◌, length, sym, ap, ◌∙◌, arith}
use Rattle.std.specs.List.{flat_map}
use Rattle.std.proofs.lemmas.List.{length-map, length-append}
use Rattle.span_base.specs.DcSet.{centres_of}
use Rattle.span_base.specs.declared.dc_set.DcSet.{DcSet}
use Rattle.span_base.specs.declared.policy.Near.{Near}
use Rattle.span_base.specs.declared.policy.Hop.{Hop}
use Rattle.span_base.specs.declared.policy.Quorum.{Quorum}
use Rattle.span_base.specs.Policy.{ArePrimaries, AreQuorums, AreHops, lane_of, lanes_of}

-- a sound policy has 1 to 8 members
pub few_nears : (f : ℕ) (replicas : DcSet) (primary : List Near) → ArePrimaries f replicas primary → length primary ≤ 8
few_nears f replicas primary are = omega (arith, are.centres.few, length-map primary (λ (n : Near). n.member.0))

pub few_members : (f : ℕ) (replicas : DcSet) (members : List Quorum) → AreQuorums f replicas members → length members ≤ 8
few_members f replicas members are = omega (arith, are.centres.few, length-map members (λ (q : Quorum). q.dc.0))

lanes_count : (replicas : DcSet) (primary : List Near) → length (flat_map (λ n. lanes_of replicas n.member.0) primary) ≡ length primary * length (centres_of replicas)
lanes_count replicas [] = omega arith
lanes_count replicas (near ∷ nears) =
    let one_each : length (lanes_of replicas near.member.0) ≡ length (centres_of replicas) = length-map {B = ℕ × ℕ} (centres_of replicas) (λ d. (near.member.0, d)) in
    length-append (lanes_of replicas near.member.0) (flat_map (λ n. lanes_of replicas n.member.0) nears)
    ∙ omega (arith, one_each, lanes_count replicas nears)

-- and one hop of each member to each replica
pub hop_count : (replicas : DcSet) (primary : List Near) (hops : List Hop) → AreHops replicas primary hops → length hops ≡ length primary * length (centres_of replicas)
hop_count replicas primary hops are = sym (length-map hops lane_of) ∙ ap length are.lanes ∙ lanes_count replicas primary

pub ruleset policies = (few_nears, few_members, hop_count)
