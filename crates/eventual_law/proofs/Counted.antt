-- What the answers that count for a put or a move of an eventual key come to.
use Rattle.std.proofs.Common.{◌≡◌, inl, inr, ℕ, ◌+◌, ◌≤◌, Bool, true, false, List, refl, sym, subst, eqb-true}
use Rattle.std.proofs.lemmas.Bool.{and_from}
use Rattle.register_law.proofs.Words.{has-insert_cases, IsAtMost-refl}
use Rattle.std.specs.Prelude.{◌==◌, nat_le, if◌then◌else◌, length, Option, Some, None}
use Rattle.std.specs.List.{range_with_len}
use Rattle.std.specs.Ordering.{is_gt}
use Rattle.span_base.specs.DcSet.{has, bits_of, centres_of, centres_below}
use Rattle.span_base.specs.PolicyParts.{faults_of, replicas_of}
use Rattle.span_base.specs.declared.ids.DcId.{DcId}
use Rattle.span_base.specs.declared.ids.KeyId.{KeyId}
use Rattle.span_base.specs.declared.dc_set.DcSet.{DcSet}
use Rattle.span_base.specs.declared.policy.Policy.{Policy}
use Rattle.ticket_rules.specs.declared.stamp.Stamp.{Stamp}
use Rattle.ticket_rules.specs.Stamp.{stamp_cmp, IsAtMost}
use Rattle.wire_msg.specs.declared.tag.Tag.{Tag}
use Rattle.wire_msg.specs.declared.actor.Actor.TheVariants as to
use Rattle.wire_msg.specs.declared.message.Message.TheVariants as m
use Rattle.call_phase.specs.declared.phase.Phase.{Phase}
use Rattle.call_phase.specs.declared.best.Found.{Found}
use Rattle.call_phase.specs.Best.{better}
use Rattle.call_phase.specs.Counting.{counts, with_good}
use Rattle.migration.specs.declared.stage.Epoch.{Epoch}
use Rattle.world_core.specs.State.{Store, policy_of}
use Rattle.register_order.proofs.Stamps.{IsAtMost-trans}
use Rattle.register_law.specs.Ghost.{Ghost}
use Rattle.register_law.specs.Seen.{WasSent, version_before, is_at_most, count_of, both}
use Rattle.register_law.proofs.Quorums.{at_most_test, count_mono}
use Rattle.register_law.proofs.MovesStep.{counts_own, counts_asked}
use Rattle.eventual_law.specs.Told.{EventualAnswersTell}
use Rattle.eventual_law.specs.Held.{is_replica, IsHeld, AreFrozen, IsFrozenWith, FreezingHeld}
use Rattle.register_law.proofs.MovesTook.{not_gt, gt_below, at_least}
use Rattle.std.proofs.lemmas.Option.{same_Some}

-- f + 1 that counted, all of them replicas of the policy that have the stamp
pub held_by : (key : KeyId) (s : Store) (g : Ghost) (epoch f : ℕ) (stamp : Stamp) (good : DcSet) → f ≡ faults_of (policy_of s key epoch) → nat_le (f + 1) (length (centres_of good)) ≡ true
    → ((d : ℕ) → has good d ≡ true → is_replica key s epoch d) → ((d : ℕ) → has good d ≡ true → IsAtMost stamp (version_before key s g d epoch)) → IsHeld key s g epoch stamp
unfolding centres_of centres_below
held_by key s g epoch f stamp good faults enough within have =
    let w : ℕ → Bool = has (replicas_of (policy_of s key epoch)) in
    let more = count_mono (has good) (both w (λ d. is_at_most stamp (version_before key s g d epoch)))
    (λ d k. and_from (w d) (is_at_most stamp (version_before key s g d epoch)) (within d k) (at_most_test stamp (version_before key s g d epoch) (have d k))) (range_with_len 0 16) in
    let many : f + 1 ≤ count_of (both w (λ d. is_at_most stamp (version_before key s g d epoch))) = at_least (f + 1) (count_of (has good)) (count_of (both w (λ d. is_at_most stamp (version_before key s g d epoch)))) enough more in
    subst (λ n. n + 1 ≤ count_of (both w (λ d. is_at_most stamp (version_before key s g d epoch)))) faults many

-- one more that counted
pub one_more : (P : ℕ → Type 0) (phase : Phase) (replica : DcId) → P replica.0 → ((d : ℕ) → has phase.good d ≡ true → P d) → (d : ℕ) → has (with_good phase replica).good d ≡ true → P d
one_more P phase replica new old d there = elim (has-insert_cases phase.good replica.0 d there) as (λ _. P d) [ inl is ↦ subst P (sym is) new | inr was ↦ old d was ]

-- where all that were asked counted
all_counted : (phase : Phase) → (bits_of phase.good == bits_of phase.asked) ≡ true → (d : ℕ) → has phase.asked d ≡ true → has phase.good d ≡ true
all_counted phase all d there =
    let same : phase.good.bits ≡ phase.asked.bits = eqb-true phase.good.bits phase.asked.bits all in
    subst (λ n. has (record { bits = n }) d ≡ true) (sym same) there

-- the greatest of what was found is at least what came now, and what was found before
better_above : (best : Option Found) (version : Stamp) (value : List ℕ) (found : Found) → better best version value ≡ Some found → IsAtMost version found.stamp × ((was : Found) → best ≡ Some was → IsAtMost was.stamp found.stamp)
better_above None version value found e =
    (subst (λ (x : Found). IsAtMost version x.stamp) (same_Some (record { stamp = version; value = value }) found e) (IsAtMost-refl version), λ was is. absurd (cc))
better_above (Some old) version value found e = by (is_gt (stamp_cmp version old.stamp)) refl e
  where
    old_is : (now : Found) → IsAtMost old.stamp now.stamp → (was : Found) → Some old ≡ Some was → IsAtMost was.stamp now.stamp
    old_is now le was is = subst (λ (x : Found). IsAtMost x.stamp now.stamp) (same_Some old was is) le

    by : (b : Bool) → is_gt (stamp_cmp version old.stamp) ≡ b → (if b then Some (record { stamp = version; value = value }) else Some old) ≡ Some found → IsAtMost version found.stamp × ((was : Found) → Some old ≡ Some was → IsAtMost was.stamp found.stamp)
    by true is z =
        subst (λ (x : Found). IsAtMost version x.stamp × ((was : Found) → Some old ≡ Some was → IsAtMost was.stamp x.stamp)) (same_Some (record { stamp = version; value = value }) found z)
        (IsAtMost-refl version, old_is (record { stamp = version; value = value }) (gt_below version old.stamp is))
    by false is z =
        subst (λ (x : Found). IsAtMost version x.stamp × ((was : Found) → Some old ≡ Some was → IsAtMost was.stamp x.stamp)) (same_Some old found z)
        (not_gt version old.stamp is, old_is old (IsAtMost-refl old.stamp))

with_better : (key : KeyId) (s : Store) (g : Ghost) (d epoch : ℕ) (best : Option Found) (version : Stamp) (value : List ℕ) (found : Found) → better best version value ≡ Some found → IsFrozenWith key s g d epoch best → IsFrozenWith key s g d epoch (Some found)
with_better key s g d epoch best version value found e was =
    record { found = found; best_is = refl; frozen = was.frozen; below = IsAtMost-trans (version_before key s g d epoch) was.found.stamp found.stamp was.below ((better_above best version value found e).1 was.found was.best_is) }

-- one more replica froze
pub froze_counted : (key : KeyId) (s : Store) (g : Ghost) (phase : Phase) (old new : Epoch) (best : Option Found) (tag : Tag) (replica : DcId) (version mark : Stamp) (value : List ℕ) (found : Found) → EventualAnswersTell key s g → FreezingHeld key s g phase old new best
    → WasSent s (m.Have tag replica version mark value) → counts phase tag replica ≡ true → better best version value ≡ Some found → (d : ℕ) → has (with_good phase replica).good d ≡ true → IsFrozenWith key s g d old.number (Some found)
froze_counted key s g phase old new best tag replica version mark value found answers held sent c e =
    let own = counts_own phase tag replica c in
    let told = answers.have_freeze phase.tag replica.0 old.number version mark value (to.Replica replica.0, held.sent replica.0 (counts_asked phase tag replica c)) (subst (λ (x : Tag). WasSent s (m.Have x replica version mark value)) (sym own) sent) in
    one_more (λ d. IsFrozenWith key s g d old.number (Some found)) phase replica
    (record { found = found; best_is = refl; frozen = told.0; below = IsAtMost-trans (version_before key s g replica.0 old.number) version found.stamp told.1 (better_above best version value found e).0 })
    (λ d was. with_better key s g d old.number best version value found e (held.counted d was))

best_same : (a b : Found) → Some a ≡ Some b → b ≡ a
best_same a b e = cc

-- every replica of the old epoch froze
pub all_frozen : (key : KeyId) (s : Store) (g : Ghost) (phase : Phase) (old : Epoch) (found : Found) → old.policy ≡ policy_of s key old.number → phase.asked ≡ replicas_of old.policy → (bits_of phase.good == bits_of phase.asked) ≡ true
    → ((d : ℕ) → has phase.good d ≡ true → IsFrozenWith key s g d old.number (Some found)) → AreFrozen key s g old.number found.stamp
all_frozen key s g phase old found policy asked all counted = record {
  frozen = λ d there. (counted d (good d there)).frozen;
  below = λ d there. let c = counted d (good d there) in subst (λ (x : Found). IsAtMost (version_before key s g d old.number) x.stamp) (best_same found c.found c.best_is) c.below;
}
  where
    good : (d : ℕ) → is_replica key s old.number d → has phase.good d ≡ true
    good d there = all_counted phase all d (subst (λ (x : DcSet). has x d ≡ true) (sym asked) (subst (λ (x : Policy). has (replicas_of x) d ≡ true) (sym policy) there))
