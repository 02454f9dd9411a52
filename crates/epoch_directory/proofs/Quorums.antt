-- The test of quorums in the definition of faults, and what it tells.
use Rattle.std.proofs.Common.{◌≡◌, Bool, true, false, IsTrue, ◌↔◌, Decides, refl, sym}
use Rattle.std.specs.Prelude.{Option, Some, None}
use Rattle.span_base.specs.declared.policy.Policy.{Policy}
use Rattle.span_base.specs.declared.policy.Policy.TheVariants.{Direct, Relay, Strong}
use Rattle.span_base.specs.Policy.{IsQuorumPolicy}
use Rattle.wire_msg.specs.Sound.{is_sound_policy}
use Rattle.wire_msg.proofs.SoundTest.{decide_sound}
use Rattle.epoch_directory.specs.Tables.{is_quorum_policy, fault_of_listed}

decide_quorum : (policy : Policy) → Decides (is_quorum_policy policy) (IsQuorumPolicy policy)
unfolding is_sound_policy
decide_quorum (Direct f replicas primary) = (λ told. absurd (cc), λ is. absurd is)
decide_quorum (Relay f replicas primary parent) = (λ told. absurd (cc), λ is. absurd is)
decide_quorum (Strong f replicas members) = decide_sound (Strong f replicas members)

-- a test that tells it is that test
pub quorum_is : (policy : Policy) (told : Bool) → IsTrue told ↔ IsQuorumPolicy policy → told ≡ is_quorum_policy policy
quorum_is policy true same = sym ((decide_quorum policy).1 (same.0 refl))
quorum_is policy false same = elim (is_quorum_policy policy) as (λ v. (v ≡ true → IsQuorumPolicy policy) → false ≡ v) [ true ↦ λ back. same.1 (back refl) | false ↦ λ back. refl ] (decide_quorum policy).0

-- a strong set with which nothing is wrong has a quorum policy
pub listed_quorum : (set : _) (o : Option Policy) (policy : Policy) → o ≡ Some policy → fault_of_listed set o ≡ None → IsQuorumPolicy policy
listed_quorum set None policy there right = absurd (cc)
listed_quorum set (Some other) policy there right = by (is_quorum_policy policy) refl
  where
    same : other ≡ policy
    same = cc

    by : (b : Bool) → is_quorum_policy policy ≡ b → IsQuorumPolicy policy
    by true is = (decide_quorum policy).0 is
    by false is = absurd (cc)
