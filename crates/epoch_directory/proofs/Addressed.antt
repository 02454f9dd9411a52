-- To whom the directory answers, of which key, and how much.
use Rattle.std.proofs.Common.{ℕ, ◌+◌, ◌*◌, ◌≤◌, length, refl, arith}
use Rattle.std.proofs.lemmas.Nat.{mul-le}
use Rattle.span_base.specs.DcSet.{centres_of}
use Rattle.span_base.specs.declared.ids.KeyId.{KeyId}
use Rattle.span_base.specs.declared.policy.Policy.{Policy}
use Rattle.span_base.specs.declared.policy.Policy.TheVariants.{Direct, Relay, Strong}
use Rattle.span_base.specs.Policy.{IsSoundPolicy}
use Rattle.span_base.proofs.Sets.{count_le}
use Rattle.wire_msg.specs.declared.tag.Tag.{Tag}
use Rattle.wire_msg.specs.declared.message.Message.TheVariants as m
use Rattle.wire_msg.specs.Sizes.{policy_size}
use Rattle.wire_msg.specs.Posts.{to_proxy, AreAnswersTo}
use Rattle.wire_msg.proofs.Sent.{answer_to_proxy}
use Rattle.wire_msg.proofs.Writing.{few_nears, few_members}

-- a sound policy has at most 8 members and 16 replicas
policy_small : (policy : Policy) → IsSoundPolicy policy → policy_size policy ≤ 149
policy_small (Direct f replicas primary) sound = omega (arith, few_nears f replicas primary sound)
policy_small (Relay f replicas primary parent) sound =
    let members : length primary ≤ 8 = few_nears f replicas primary sound.0 in
    let each : length primary * (2 + length (centres_of replicas)) ≤ 8 * 18 = mul-le (length primary) (2 + length (centres_of replicas)) 8 18 members (omega (arith, count_le replicas)) in
    omega (arith, each)
policy_small (Strong f replicas members) sound = omega (arith, few_members f replicas members sound)

pub here_answers : (tag : Tag) (key : KeyId) (epoch : ℕ) (policy : Policy) (newest : ℕ) (newest_policy : Policy) → IsSoundPolicy policy → IsSoundPolicy newest_policy
    → AreAnswersTo (m.Lookup tag key) (to_proxy tag (m.Here tag key epoch policy newest newest_policy))
here_answers tag key epoch policy newest newest_policy sound newest_sound =
    answer_to_proxy (m.Lookup tag key) (m.Here tag key epoch policy newest newest_policy) refl (omega (arith, policy_small policy sound, policy_small newest_policy newest_sound))
