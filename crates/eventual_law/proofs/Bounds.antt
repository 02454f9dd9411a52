-- No replica is frozen for an epoch that is still to come.
use Rattle.std.proofs.Common.{◌≡◌, ◌⊎◌, inl, inr, ℕ, ◌<◌, ◌≤◌, Bool, true, false, List, [], ◌∷◌, refl, sym, ap, ◌∙◌, subst, arith}
use Rattle.std.specs.Prelude.{max, Some, Contains}
use Rattle.std.specs.Ordering.{is_gt}
use Rattle.std.proofs.lemmas.Bool.{cases_lt}
use Rattle.span_base.specs.declared.ids.KeyId.{KeyId}
use Rattle.ticket_rules.specs.declared.stamp.Stamp.{Stamp}
use Rattle.ticket_rules.specs.Stamp.{stamp_cmp}
use Rattle.wire_msg.specs.declared.tag.Tag.{Tag}
use Rattle.wire_msg.specs.declared.message.Message.{Message}
use Rattle.wire_msg.specs.declared.actor.Actor.TheVariants as to
use Rattle.wire_msg.specs.declared.message.Message.TheVariants as m
use Rattle.epoch_directory.specs.State.{current_of}
use Rattle.replica_core.specs.declared.kept.Kept.{Kept}
use Rattle.replica_core.specs.Keeping.{is_over, after_merge, kept_after}
use Rattle.replica_core.specs.Rule.{request_key as key_of}
use Rattle.world_core.specs.State.{Store, kept_of}
use Rattle.world_core.specs.Step.{Happening}
use Rattle.register_law.specs.Ghost.{Ghost}
use Rattle.register_law.specs.Seen.{WasSent}
use Rattle.register_law.specs.Ends.{IsChain, IsNewest}
use Rattle.register_law.specs.Cases.{Happened}
use Rattle.register_law.proofs.Kept.{KeptIs, kept_cases, is_request}
use Rattle.register_law.proofs.OpeningsCurrent.{CurrentAfter, same_current, switched, current_after}
use Rattle.register_order.proofs.Members.{among, none_among}
use Rattle.eventual_law.specs.Kinds.{MayAskEventual, KeyIsEventual}
use Rattle.eventual_law.specs.Held.{InvOfEventual}
use Rattle.eventual_law.specs.Quiet.{MovesGoOn}
use Rattle.std.proofs.lemmas.Option.{same_Some}

below_first : (key : KeyId) (s : Store) (new : ℕ) (rest : List ℕ) → IsChain key s (new ∷ rest) → (e : ℕ) → Contains (new ∷ rest) e → e ≤ new
below_first key s new [] chain e c = elim (among new [] e c) as (λ _. e ≤ new) [ inl is ↦ omega arith | inr more ↦ absurd (none_among e more) ]
below_first key s new (old ∷ rest) chain e c = elim (among new (old ∷ rest) e c) as (λ _. e ≤ new) [
  | inl is ↦ omega arith
  | inr more ↦ (let le = below_first key s old rest chain.2 e more in let lt = chain.0 in omega arith)
]

below_newest : (key : KeyId) (s : Store) (opened : List ℕ) (current : ℕ) → IsChain key s opened → IsNewest current opened → (e : ℕ) → Contains opened e → e ≤ current
below_newest key s [] current chain newest e c = absurd newest
below_newest key s (new ∷ rest) current chain newest e c = let le = below_first key s new rest chain e c in omega arith

-- an epoch that has been current is at most the current one
pub opened_below : (key : KeyId) (s : Store) (g : Ghost) → InvOfEventual key s g → (e : ℕ) → Contains g.opened e → e ≤ current_of s.directory key
opened_below key s g inv e c = below_newest key s g.opened (current_of s.directory key) inv.epochs.chain inv.epochs.newest e c

-- the current epoch never falls
pub current_grows : (key : KeyId) (s : Store) (h : Happening) → Happened s h → current_of s.directory key ≤ current_of h.store.directory key
current_grows key s h is = by (current_after key s h is)
  where
    by : CurrentAfter key s h → current_of s.directory key ≤ current_of h.store.directory key
    by (same_current same) = omega arith
    by (switched tag old new sent can now) = let was = can.current in let later = can.later in omega arith

-- for what a replica is frozen after an event
pub data FrozenNow (key : KeyId) (s : Store) (d : ℕ) (new : Kept) : Type 0 where
  still_frozen : new.frozen ≡ (kept_of s d key).frozen → FrozenNow key s d new
  by_freeze : (tag : Tag) (epoch : ℕ) → Contains s.sent (record { to = to.Replica d; message = m.Freeze tag key epoch }) → new.frozen ≡ max (kept_of s d key).frozen epoch → FrozenNow key s d new

merge_frozen : (kept : Kept) (stamp : Stamp) (value : List ℕ) (epoch : ℕ) (over above : Bool) → is_over kept epoch ≡ over → is_gt (stamp_cmp stamp kept.version) ≡ above → (after_merge kept epoch stamp value).frozen ≡ kept.frozen
merge_frozen kept stamp value epoch true above a b = rw a refl
merge_frozen kept stamp value epoch false true a b = rw (a, b) refl
merge_frozen kept stamp value epoch false false a b = rw (a, b) refl

took : (key : KeyId) (s : Store) (d : ℕ) (message : Message) → Contains s.sent (record { to = to.Replica d; message = message }) → key_of message ≡ Some key → MayAskEventual message → FrozenNow key s d (kept_after (kept_of s d key) message)
took key s d (m.Read tag at epoch) sent is may = still_frozen refl
took key s d (m.Ask tag at stamp) sent is may = absurd may
took key s d (m.Store tag at stamp value) sent is may = absurd may
took key s d (m.Repair tag at epoch stamp value) sent is may = absurd may
took key s d (m.Confirm tag at stamp) sent is may = absurd may
took key s d (m.Freeze tag at epoch) sent is may =
    by_freeze tag epoch (subst (λ (x : KeyId). Contains s.sent (record { to = to.Replica d; message = m.Freeze tag x epoch })) (same_Some at key is) sent) refl
took key s d (m.Seed tag at epoch stamp value) sent is may = still_frozen (merge_frozen (kept_of s d key) stamp value epoch (is_over (kept_of s d key) epoch) (is_gt (stamp_cmp stamp (kept_of s d key).version)) refl refl)
took key s d (m.Push tag at stamp onward value) sent is may = still_frozen (merge_frozen (kept_of s d key) stamp value stamp.epoch (is_over (kept_of s d key) stamp.epoch) (is_gt (stamp_cmp stamp (kept_of s d key).version)) refl refl)
took key s d (m.Lookup tag at) sent is may = still_frozen refl
took key s d (m.Switch tag at old new) sent is may = still_frozen refl
took key s d (m.Have tag replica version mark value) sent is may = still_frozen refl
took key s d (m.Yes tag replica) sent is may = still_frozen refl
took key s d (m.Held tag replica stamp) sent is may = still_frozen refl
took key s d (m.Gone tag replica epoch) sent is may = still_frozen refl
took key s d (m.Here tag at epoch policy latest_epoch latest_policy) sent is may = still_frozen refl
took key s d (m.Switched tag at done epoch) sent is may = still_frozen refl

by_case : (key : KeyId) (s : Store) (d : ℕ) (new : Kept) → KeyIsEventual key s → KeptIs key s d new → FrozenNow key s d new
by_case key s d new k (inl is) = still_frozen (ap (λ (x : Kept). x.frozen) is)
by_case key s d new k (inr t) = subst (FrozenNow key s d) (sym t.is) (took key s d t.message t.sent t.at (k.sent_kinds t.message (to.Replica d, t.sent) (is_request t.message key t.at)))

pub frozen_now : (key : KeyId) (s : Store) (h : Happening) → Happened s h → KeyIsEventual key s → (d : ℕ) → FrozenNow key s d (kept_of h.store d key)
frozen_now key s h is k d = by_case key s d (kept_of h.store d key) k (kept_cases key s h is d)

-- a replica is frozen for none, or for an epoch that was asked for
abbrev pub IsFrozenBy : KeyId → Store → ℕ → Type 0
IsFrozenBy key s frozen = (frozen ≡ 0) ⊎ ((tag : Tag) × WasSent s (m.Freeze tag key frozen))

still_by : (key : KeyId) (s z : Store) (d : ℕ) (new : Kept) → ((message : Message) → WasSent s message → WasSent z message) → IsFrozenBy key s (kept_of s d key).frozen → new.frozen ≡ (kept_of s d key).frozen → IsFrozenBy key z new.frozen
still_by key s z d new more (inl zero) is = inl (is ∙ zero)
still_by key s z d new more (inr by) is = inr (by.0, subst (λ n. WasSent z (m.Freeze by.0 key n)) (sym is) (more (m.Freeze by.0 key (kept_of s d key).frozen) by.1))

pub frozen_by_after : (key : KeyId) (s z : Store) (d : ℕ) (new : Kept) → ((message : Message) → WasSent s message → WasSent z message) → IsFrozenBy key s (kept_of s d key).frozen → FrozenNow key s d new → IsFrozenBy key z new.frozen
frozen_by_after key s z d new more was (still_frozen is) = still_by key s z d new more was is
frozen_by_after key s z d new more was (by_freeze tag epoch sent is) = by (cases_lt (kept_of s d key).frozen epoch)
  where
    by : ((kept_of s d key).frozen < epoch) ⊎ (epoch ≤ (kept_of s d key).frozen) → IsFrozenBy key z new.frozen
    by (inl lt) = let e : new.frozen ≡ epoch = omega arith in inr (tag, subst (λ n. WasSent z (m.Freeze tag key n)) (sym e) (more (m.Freeze tag key epoch) (to.Replica d, sent)))
    by (inr le) = still_by key s z d new more was (omega arith)

-- no replica is frozen for an epoch beyond the current one
pub frozen_below : (key : KeyId) (s : Store) (g : Ghost) → InvOfEventual key s g → MovesGoOn key s g → (d : ℕ) → (kept_of s d key).frozen ≤ current_of s.directory key
frozen_below key s g inv go d = elim (go.frozen_by d) as (λ _. (kept_of s d key).frozen ≤ current_of s.directory key) [
  | inl zero ↦ omega arith
  | inr by ↦ opened_below key s g inv (kept_of s d key).frozen (go.freeze_opened by.0 (kept_of s d key).frozen by.1)
]
