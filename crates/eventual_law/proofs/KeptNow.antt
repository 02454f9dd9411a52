-- Where a version of an eventual key that a replica keeps after an event comes from: it was kept before, a seed or a push brought it.
use Rattle.std.proofs.Common.{◌≡◌, inl, inr, ℕ, ◌<◌, Bool, true, false, List, refl, sym, ap, subst}
use Rattle.std.specs.Prelude.{Some, Contains}
use Rattle.std.specs.Ordering.{is_gt}
use Rattle.span_base.specs.declared.ids.KeyId.{KeyId}
use Rattle.span_base.specs.declared.dc_set.DcSet.{DcSet}
use Rattle.ticket_rules.specs.declared.stamp.Stamp.{Stamp}
use Rattle.ticket_rules.specs.Stamp.{stamp_cmp}
use Rattle.wire_msg.specs.declared.tag.Tag.{Tag}
use Rattle.wire_msg.specs.declared.message.Message.{Message}
use Rattle.wire_msg.specs.declared.actor.Actor.TheVariants as to
use Rattle.wire_msg.specs.declared.message.Message.TheVariants as m
use Rattle.replica_core.specs.declared.kept.Kept.{Kept}
use Rattle.replica_core.specs.Keeping.{is_over, after_merge, kept_after}
use Rattle.replica_core.specs.Rule.{request_key as key_of}
use Rattle.world_core.specs.State.{Store, kept_of}
use Rattle.world_core.specs.Step.{Happening}
use Rattle.register_law.specs.Seen.{WasSent}
use Rattle.register_law.specs.Cases.{Happened}
use Rattle.register_law.proofs.Kept.{KeptIs, kept_cases, is_request}
use Rattle.eventual_law.specs.Kinds.{MayAskEventual, KeyIsEventual}
use Rattle.std.proofs.lemmas.Option.{same_Some}
use Rattle.register_law.proofs.AnswersTold.{still_open}

pub data KeptNow (key : KeyId) (s : Store) (d : ℕ) (new : Kept) : Type 0 where
  kept_still : new.version ≡ (kept_of s d key).version → new.value ≡ (kept_of s d key).value → KeptNow key s d new
  by_seed : (tag : Tag) (epoch : ℕ) (stamp : Stamp) (value : List ℕ) → WasSent s (m.Seed tag key epoch stamp value) → new.version ≡ stamp → new.value ≡ value → KeptNow key s d new
  by_push : (tag : Tag) (stamp : Stamp) (onward : DcSet) (value : List ℕ) → Contains s.sent (record { to = to.Replica d; message = m.Push tag key stamp onward value }) → new.frozen < stamp.epoch → new.version ≡ stamp → new.value ≡ value → KeptNow key s d new

merged : (X : Kept → Type 0) (kept : Kept) (stamp : Stamp) (value : List ℕ) (epoch : ℕ) (over above : Bool) → is_over kept epoch ≡ over → is_gt (stamp_cmp stamp kept.version) ≡ above → X kept → (is_over kept epoch ≡ false → X (record kept { version = stamp; value = value })) → X (after_merge kept epoch stamp value)
merged X kept stamp value epoch true above a b was new = rw a was
merged X kept stamp value epoch false true a b was new = rw (a, b) (new a)
merged X kept stamp value epoch false false a b was new = rw (a, b) was

took : (key : KeyId) (s : Store) (d : ℕ) (message : Message) → Contains s.sent (record { to = to.Replica d; message = message }) → key_of message ≡ Some key → MayAskEventual message → KeptNow key s d (kept_after (kept_of s d key) message)
took key s d (m.Read tag at epoch) sent is may = kept_still refl refl
took key s d (m.Ask tag at stamp) sent is may = absurd may
took key s d (m.Store tag at stamp value) sent is may = absurd may
took key s d (m.Repair tag at epoch stamp value) sent is may = absurd may
took key s d (m.Confirm tag at stamp) sent is may = absurd may
took key s d (m.Freeze tag at epoch) sent is may = kept_still refl refl
took key s d (m.Seed tag at epoch stamp value) sent is may =
    merged (KeptNow key s d) (kept_of s d key) stamp value epoch (is_over (kept_of s d key) epoch) (is_gt (stamp_cmp stamp (kept_of s d key).version)) refl refl (kept_still refl refl)
    (λ _. by_seed tag epoch stamp value (to.Replica d, subst (λ (x : KeyId). Contains s.sent (record { to = to.Replica d; message = m.Seed tag x epoch stamp value })) (same_Some at key is) sent) refl refl)
took key s d (m.Push tag at stamp onward value) sent is may =
    merged (KeptNow key s d) (kept_of s d key) stamp value stamp.epoch (is_over (kept_of s d key) stamp.epoch) (is_gt (stamp_cmp stamp (kept_of s d key).version)) refl refl (kept_still refl refl)
    (λ o. by_push tag stamp onward value (subst (λ (x : KeyId). Contains s.sent (record { to = to.Replica d; message = m.Push tag x stamp onward value })) (same_Some at key is) sent) (still_open (kept_of s d key) stamp.epoch o) refl refl)
took key s d (m.Lookup tag at) sent is may = kept_still refl refl
took key s d (m.Switch tag at old new) sent is may = kept_still refl refl
took key s d (m.Have tag replica version mark value) sent is may = kept_still refl refl
took key s d (m.Yes tag replica) sent is may = kept_still refl refl
took key s d (m.Held tag replica stamp) sent is may = kept_still refl refl
took key s d (m.Gone tag replica epoch) sent is may = kept_still refl refl
took key s d (m.Here tag at epoch policy latest_epoch latest_policy) sent is may = kept_still refl refl
took key s d (m.Switched tag at done epoch) sent is may = kept_still refl refl

by_case : (key : KeyId) (s : Store) (d : ℕ) (new : Kept) → KeyIsEventual key s → KeptIs key s d new → KeptNow key s d new
by_case key s d new k (inl is) = kept_still (ap (λ (x : Kept). x.version) is) (ap (λ (x : Kept). x.value) is)
by_case key s d new k (inr t) =
    subst (KeptNow key s d) (sym t.is) (took key s d t.message t.sent t.at (k.sent_kinds t.message (to.Replica d, t.sent) (is_request t.message key t.at)))

pub kept_now : (key : KeyId) (s : Store) (h : Happening) → Happened s h → KeyIsEventual key s → (d : ℕ) → KeptNow key s d (kept_of h.store d key)
kept_now key s h is k d = by_case key s d (kept_of h.store d key) k (kept_cases key s h is d)
