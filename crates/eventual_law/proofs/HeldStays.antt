-- What puts and moves of an eventual key rest on stays true as the state grows.
use Rattle.std.proofs.Common.{◌≡◌, inl, inr, ℕ, ◌+◌, ◌≤◌, true, sym, ◌∙◌, subst, arith, Bool}
use Rattle.std.proofs.lemmas.Bool.{and_from}
use Rattle.register_law.proofs.Words.{and_left, and_right}
use Rattle.std.specs.Prelude.{Contains, Option}
use Rattle.std.specs.List.{range_with_len}
use Rattle.span_base.specs.DcSet.{has}
use Rattle.span_base.specs.PolicyParts.{faults_of, replicas_of}
use Rattle.span_base.specs.declared.ids.Call.{Call}
use Rattle.span_base.specs.declared.ids.KeyId.{KeyId}
use Rattle.span_base.specs.declared.policy.Policy.{Policy}
use Rattle.ticket_rules.specs.declared.stamp.Stamp.{Stamp}
use Rattle.ticket_rules.specs.Stamp.{IsAtMost}
use Rattle.wire_msg.specs.declared.tag.Tag.{Tag}
use Rattle.wire_msg.specs.declared.actor.Actor.TheVariants as to
use Rattle.wire_msg.specs.declared.message.Message.TheVariants as m
use Rattle.call_phase.specs.declared.phase.Phase.{Phase}
use Rattle.call_phase.specs.declared.best.Found.{Found}
use Rattle.migration.specs.declared.stage.Epoch.{Epoch}
use Rattle.migration.specs.declared.stage.Stage.{Stage}
use Rattle.migration.specs.declared.stage.Stage.TheVariants.{Looking, Freezing, Seeding, Switching, Ended}
use Rattle.world_core.specs.State.{Store, policy_of}
use Rattle.register_order.proofs.Stamps.{IsAtMost-trans}
use Rattle.register_law.specs.Ghost.{Ghost}
use Rattle.register_law.specs.Seen.{Grows, version_before, is_at_most, count_of, both}
use Rattle.register_law.proofs.Quorums.{at_most_test, at_most_trans, count_mono}
use Rattle.register_law.proofs.MovesStable.{sent_stays, IsOut, target_stays}
use Rattle.eventual_law.specs.Opened.{WasSeeded}
use Rattle.eventual_law.specs.Held.{is_replica, IsHeld, AreFrozen, IsSeededTo, SwitchHeld, IsFrozenWith, FreezingHeld, SeedingHeld, SwitchingHeld, IsHeldMove, WasDone, IsAtReplica, IsReached}

-- epochs that have been current are published
abbrev pub AreOut : Store → Ghost → Type 0
AreOut s g = (e : ℕ) → Contains g.opened e → IsOut s e

-- a replica of a policy that stays was one
replica_was : (key : KeyId) (s : Store) (g : Ghost) (z : Store) (h : Ghost) (e d : ℕ) → Grows key s g z h → IsOut s e → is_replica key z e d → is_replica key s e d
replica_was key s g z h e d grows out there = subst (λ (x : Policy). has (replicas_of x) d ≡ true) (grows.policies e out.0 out.1) there

pub replica_stays : (key : KeyId) (s : Store) (g : Ghost) (z : Store) (h : Ghost) (e d : ℕ) → Grows key s g z h → IsOut s e → is_replica key s e d → is_replica key z e d
replica_stays key s g z h e d grows out there = subst (λ (x : Policy). has (replicas_of x) d ≡ true) (sym (grows.policies e out.0 out.1)) there

pub reached_stays : (key : KeyId) (s : Store) (g : Ghost) (z : Store) (h : Ghost) (d e : ℕ) (stamp : Stamp) → Grows key s g z h → IsAtMost stamp (version_before key s g d e) → IsAtMost stamp (version_before key z h d e)
reached_stays key s g z h d e stamp grows was = IsAtMost-trans stamp (version_before key s g d e) (version_before key z h d e) was (grows.before d e)

pub held_stays : (key : KeyId) (s : Store) (g : Ghost) (z : Store) (h : Ghost) (e : ℕ) (stamp : Stamp) → Grows key s g z h → IsOut s e → IsHeld key s g e stamp → IsHeld key z h e stamp
held_stays key s g z h e stamp grows out was =
    subst (λ (x : Policy). faults_of x + 1 ≤ count_of (both (has (replicas_of x)) (λ d. is_at_most stamp (version_before key z h d e)))) (sym (grows.policies e out.0 out.1)) enough
  where
    w : ℕ → Bool
    w = has (replicas_of (policy_of s key e))

    enough : faults_of (policy_of s key e) + 1 ≤ count_of (both w (λ d. is_at_most stamp (version_before key z h d e)))
    enough =
        let more = count_mono (both w (λ d. is_at_most stamp (version_before key s g d e))) (both w (λ d. is_at_most stamp (version_before key z h d e)))
        (λ d k. and_from (w d) (is_at_most stamp (version_before key z h d e)) (and_left (w d) (is_at_most stamp (version_before key s g d e)) k)
        (at_most_trans stamp (version_before key s g d e) (version_before key z h d e) (and_right (w d) (is_at_most stamp (version_before key s g d e)) k)
        (at_most_test (version_before key s g d e) (version_before key z h d e) (grows.before d e)))) (range_with_len 0 16) in
        omega arith

pub frozen_stay : (key : KeyId) (s : Store) (g : Ghost) (z : Store) (h : Ghost) (e : ℕ) (stamp : Stamp) → Grows key s g z h → IsOut s e → AreFrozen key s g e stamp → AreFrozen key z h e stamp
frozen_stay key s g z h e stamp grows out was = record {
  frozen = λ d there. let le = was.frozen d (replica_was key s g z h e d grows out there) in let more = grows.frozen d in omega arith;
  below = λ d there.
      let here = replica_was key s g z h e d grows out there in
      subst (λ (x : Stamp). IsAtMost x stamp) (sym (grows.fixed d e (was.frozen d here))) (was.below d here);
}

seed_stays : (key : KeyId) (s : Store) (g : Ghost) (z : Store) (h : Ghost) (call : Call) (stamp : Stamp) → Grows key s g z h → WasSeeded key s call stamp → WasSeeded key z call stamp
seed_stays key s g z h call stamp grows was =
    record { tag = was.tag; of = was.of; epoch = was.epoch; value = was.value; sent = sent_stays key s g z h (m.Seed was.tag key was.epoch stamp was.value) grows was.sent }

seeded_to_stays : (key : KeyId) (s : Store) (g : Ghost) (z : Store) (h : Ghost) (d e : ℕ) (stamp : Stamp) → Grows key s g z h → IsSeededTo key s d e stamp → IsSeededTo key z d e stamp
seeded_to_stays key s g z h d e stamp grows was = record { tag = was.tag; value = was.value; sent = grows.sent (record { to = to.Replica d; message = m.Seed was.tag key e stamp was.value }) was.sent }

pub switch_stays : (key : KeyId) (s : Store) (g : Ghost) (z : Store) (h : Ghost) (call : Call) (old new : ℕ) → Grows key s g z h → AreOut s g → SwitchHeld key s g call old new → SwitchHeld key z h call old new
switch_stays key s g z h call old new grows out was =
    let lt = was.later in
    let le = was.published in
    let more = grows.published in
    record {
      seeded = was.seeded;
      seed = seed_stays key s g z h call was.seeded grows was.seed;
      opened = grows.opened old was.opened;
      later = was.later;
      published = omega arith;
      all_frozen = frozen_stay key s g z h old was.seeded grows (out old was.opened) was.all_frozen;
      held = held_stays key s g z h new was.seeded grows (omega arith, was.published) was.held;
      to_all = λ d there. seeded_to_stays key s g z h d new was.seeded grows (was.to_all d (replica_was key s g z h new d grows (omega arith, was.published) there));
    }

with_stays : (key : KeyId) (s : Store) (g : Ghost) (z : Store) (h : Ghost) (d e : ℕ) (best : Option Found) → Grows key s g z h → IsFrozenWith key s g d e best → IsFrozenWith key z h d e best
with_stays key s g z h d e best grows was = record {
  found = was.found;
  best_is = was.best_is;
  frozen = (let le = was.frozen in let more = grows.frozen d in omega arith);
  below = subst (λ (x : Stamp). IsAtMost x was.found.stamp) (sym (grows.fixed d e was.frozen)) was.below;
}

pub freezing_stays : (key : KeyId) (s : Store) (g : Ghost) (z : Store) (h : Ghost) (phase : Phase) (old new : Epoch) (best : Option Found) → Grows key s g z h → AreOut s g → FreezingHeld key s g phase old new best → FreezingHeld key z h phase old new best
freezing_stays key s g z h phase old new best grows out was =
    let is_out = out old.number was.target.opened in
    record {
      second = was.second;
      target = target_stays key s g z h old.number new grows was.target;
      policy = was.policy ∙ sym (grows.policies old.number is_out.0 is_out.1);
      asked = was.asked;
      sent = λ d there. grows.sent (record { to = to.Replica d; message = m.Freeze phase.tag key old.number }) (was.sent d there);
      counted = λ d there. with_stays key s g z h d old.number best grows (was.counted d there);
    }

pub seeding_stays : (key : KeyId) (s : Store) (g : Ghost) (z : Store) (h : Ghost) (phase : Phase) (old : ℕ) (new : Epoch) (seeded : Stamp) → Grows key s g z h → AreOut s g → SeedingHeld key s g phase old new seeded → SeedingHeld key z h phase old new seeded
seeding_stays key s g z h phase old new seeded grows out was = record {
  third = was.third;
  target = target_stays key s g z h old new grows was.target;
  asked = was.asked;
  sent = λ d there. let seed = was.sent d there in (seed.0, grows.sent (record { to = to.Replica d; message = m.Seed phase.tag key new.number seeded seed.0 }) seed.1);
  within = was.within;
  frozen = frozen_stay key s g z h old seeded grows (out old was.target.opened) was.frozen;
  counted = λ d there. reached_stays key s g z h d new.number seeded grows (was.counted d there);
}

switching_stays : (key : KeyId) (s : Store) (g : Ghost) (z : Store) (h : Ghost) (phase : Phase) (old : ℕ) (new : Epoch) → Grows key s g z h → AreOut s g → SwitchingHeld key s g phase old new → SwitchingHeld key z h phase old new
switching_stays key s g z h phase old new grows out was =
    let lt = was.held.later in
    record {
      fourth = was.fourth;
      held = switch_stays key s g z h phase.tag.call old new.number grows out was.held;
      policy = was.policy ∙ sym (grows.policies new.number (omega arith) was.held.published);
      sent = grows.sent (record { to = to.Directory; message = m.Switch phase.tag key old new.number }) was.sent;
    }

-- whatever a live move rests on
pub move_stays : (key : KeyId) (s : Store) (g : Ghost) (z : Store) (h : Ghost) (phase : Phase) (stage : Stage) → Grows key s g z h → AreOut s g → IsHeldMove key s g phase stage → IsHeldMove key z h phase stage
move_stays key s g z h phase Looking grows out was = was
move_stays key s g z h phase (Freezing old new best) grows out was = freezing_stays key s g z h phase old new best grows out was
move_stays key s g z h phase (Seeding old new frozen seeded top_gone) grows out was = seeding_stays key s g z h phase old new seeded grows out was
move_stays key s g z h phase (Switching old new frozen seeded) grows out was = switching_stays key s g z h phase old new grows out was
move_stays key s g z h phase Ended grows out was = tt

pub done_stays : (key : KeyId) (s : Store) (g : Ghost) (z : Store) (h : Ghost) (tag : Tag) → Grows key s g z h → WasDone key s g tag → WasDone key z h tag
done_stays key s g z h tag grows was = record { old = was.old; new = was.new; sent = sent_stays key s g z h (m.Switch tag key was.old was.new) grows was.sent; opened = grows.opened was.new was.opened }

at_replica_stays : (key : KeyId) (s : Store) (g : Ghost) (z : Store) (h : Ghost) (stamp : Stamp) → Grows key s g z h → AreOut s g → IsAtReplica key s g stamp → IsAtReplica key z h stamp
at_replica_stays key s g z h stamp grows out was = record {
  opened = grows.opened stamp.epoch was.opened;
  d = was.d;
  of_policy = replica_stays key s g z h stamp.epoch was.d grows (out stamp.epoch was.opened) was.of_policy;
  reached = reached_stays key s g z h was.d stamp.epoch stamp grows was.reached;
}

pub version_stays : (key : KeyId) (s : Store) (g : Ghost) (z : Store) (h : Ghost) (stamp : Stamp) → Grows key s g z h → AreOut s g → IsReached key s g stamp → IsReached key z h stamp
version_stays key s g z h stamp grows out (inl zero) = inl zero
version_stays key s g z h stamp grows out (inr at) = inr (at_replica_stays key s g z h stamp grows out at)
