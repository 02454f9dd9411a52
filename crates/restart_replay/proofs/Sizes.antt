-- How many bytes the record of a message has at most.
use Rattle.std.proofs.Common.{ℕ, ◌+◌, ◌*◌, ◌≤◌, List, length, arith}
use Rattle.std.proofs.lemmas.List.{length-map}
use Rattle.std.proofs.lemmas.Nat.{mul-le}
use Rattle.span_base.specs.DcSet.{centres_of}
use Rattle.span_base.specs.declared.policy.Near.{Near}
use Rattle.span_base.specs.declared.policy.Quorum.{Quorum}
use Rattle.span_base.specs.declared.policy.Policy.{Policy}
use Rattle.span_base.specs.declared.policy.Policy.TheVariants.{Direct, Relay, Strong}
use Rattle.span_base.specs.Policy.{IsSoundPolicy, ArePrimaries}
use Rattle.span_base.proofs.Sets.{count_le}
use Rattle.wire_msg.specs.declared.message.Message.{Message}
use Rattle.wire_msg.specs.declared.message.Message.TheVariants as m
use Rattle.wire_msg.specs.Lawful.{IsLawful}
use Rattle.wire_msg.specs.Sizes.{frame_size, policy_size}
use Rattle.replica_core.specs.Taking.{record_size}
use Rattle.span_base.specs.declared.dc_set.DcSet.{DcSet}

few_primaries : (f : ℕ) (replicas : DcSet) (primary : List Near) → ArePrimaries f replicas primary → length primary ≤ 8
few_primaries f replicas primary is =
    let few = is.centres.few in
    let many = length-map primary (λ (n : Near). n.member.0) in
    omega (arith, few, many)

policy_small : (policy : Policy) → IsSoundPolicy policy → policy_size policy ≤ 149
policy_small (Direct f replicas primary) is = let few = few_primaries f replicas primary is in omega (arith, few)
policy_small (Relay f replicas primary parent) is =
    let few = few_primaries f replicas primary is.0 in
    let count = count_le replicas in
    let product : length primary * (2 + length (centres_of replicas)) ≤ 8 * 18 = mul-le (length primary) (2 + length (centres_of replicas)) 8 18 few (omega (arith, count)) in
    omega (arith, product)
policy_small (Strong f replicas members) is =
    let few = is.centres.few in
    let many = length-map members (λ (q : Quorum). q.dc.0) in
    omega (arith, few, many)

frame_small : (message : Message) → IsLawful message → frame_size message ≤ 4145
frame_small (m.Read tag key epoch) is = omega arith
frame_small (m.Ask tag key stamp) is = omega arith
frame_small (m.Store tag key stamp value) is = let small : length value ≤ 4096 = is.1.1.1.0 in omega (arith, small)
frame_small (m.Repair tag key epoch stamp value) is = let small : length value ≤ 4096 = is.1.1.1.1.0 in omega (arith, small)
frame_small (m.Confirm tag key stamp) is = omega arith
frame_small (m.Freeze tag key epoch) is = omega arith
frame_small (m.Seed tag key epoch stamp value) is = let small : length value ≤ 4096 = is.1.1.1.1.0 in omega (arith, small)
frame_small (m.Push tag key stamp onward value) is = let small : length value ≤ 4096 = is.1.1.1.1.0 in omega (arith, small)
frame_small (m.Lookup tag key) is = omega arith
frame_small (m.Switch tag key closing opening) is = omega arith
frame_small (m.Have tag replica version mark value) is = let small : length value ≤ 4096 = is.1.1.1.1.0 in omega (arith, small)
frame_small (m.Yes tag replica) is = omega arith
frame_small (m.Held tag replica stamp) is = omega arith
frame_small (m.Gone tag replica epoch) is = omega arith
frame_small (m.Here tag key epoch policy latest_epoch latest_policy) is =
    let one = policy_small policy is.1.1.1.0 in
    let other = policy_small latest_policy is.1.1.1.1.1.0 in
    omega (arith, one, other)
frame_small (m.Switched tag key done epoch) is = omega arith

pub record_small : (message : Message) → IsLawful message → record_size message ≤ 4148
record_small message is = let small = frame_small message is in omega (arith, small)
