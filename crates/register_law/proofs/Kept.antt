-- What a replica keeps of a key after an event: what it kept, or what a message made of it; and nothing falls.
use Rattle.std.proofs.Common.{◌≡◌, ◌⊎◌, inl, inr, ℕ, true, false, List, ◌∷◌, refl, sym, ap, ◌∙◌, subst, Bool, zero, suc, slice_set, slice_index_or, Option, Some, None, Contains, ◌&&◌, not, if◌then◌else◌}
use Rattle.register_law.proofs.Words.{KeyId, Message, kept_after, kept_at, key_of, step_at, Kept, Replica, Store, kept_of, no_replica, replica_at, Happening, with_replica, Happened, replica_stopped, replica_took, grants, stamp_cmp, stores, Stamp, Tag, after_merge, after_store, is_over, merge, IsKnown, WasSent, IsPushFree, request_key, Rises, is_gt, same_key}
use Rattle.wire_msg.specs.declared.actor.Actor.TheVariants as to
use Rattle.replica_core.specs.Keeping.{opening, after_ask}
use Rattle.replica_core.specs.Rule.{State, step}
use Rattle.wire_msg.specs.declared.message.Message.TheVariants as m
use Rattle.replica_core.proofs.Falling.{kept_after_rises, rises_itself}
use Rattle.register_law.proofs.Basics.{sent_grows, is_made}

-- what stands at a place after a change: what was there, or the new item, where the place is the changed one
pub set_cases : {X : Type 0} → (xs : List X) (i j : ℕ) (y d : X) → (slice_index_or (slice_set xs i y) j d ≡ slice_index_or xs j d) ⊎ ((j ≡ i) × (slice_index_or (slice_set xs i y) j d ≡ y))
set_cases {X} (x ∷ xs) zero zero y d = inr (refl, refl)
set_cases {X} (x ∷ xs) (suc i) (suc j) y d =
    elim (set_cases xs i j y d) as (λ _. (slice_index_or (slice_set xs i y) j d ≡ slice_index_or xs j d) ⊎ ((suc j ≡ suc i) × (slice_index_or (slice_set xs i y) j d ≡ y))) [
      | inl same ↦ inl same
      | inr new ↦ inr (ap suc new.0, new.1)
    ]
set_cases {X} xs i j y d = inl refl

-- a replica took this message on the key
pub record Took (key : KeyId) (s : Store) (d : ℕ) (new : Kept) : Type 0 where
  pub message : Message
  pub sent : Contains s.sent (record { to = to.Replica d; message = message })
  pub at : key_of message ≡ Some key
  pub is : new ≡ kept_after (kept_of s d key) message

-- one replica's step on one key
step_cases : (state : State) (message : Message) (key : KeyId) (o : Option KeyId) → key_of message ≡ o
    → (kept_at (step_at state message o).state key ≡ kept_at state key) ⊎ ((key_of message ≡ Some key) × (kept_at (step_at state message o).state key ≡ kept_after (kept_at state key) message))
step_cases state message key None is = inl refl
step_cases state message key (Some at) is =
    elim (set_cases state.kept at.0 key.0 (kept_after (kept_at state at) message) opening) as (λ _. (kept_at (step_at state message (Some at)).state key ≡ kept_at state key) ⊎ ((key_of message ≡ Some key) × (kept_at (step_at state message (Some at)).state key ≡ kept_after (kept_at state key) message))) [
      | inl same ↦ inl same
      | inr new ↦ inr (is ∙ ap Some (sym (same_key key at new.0)), new.1 ∙ ap (λ (x : KeyId). kept_after (kept_at state x) message) (sym (same_key key at new.0)))
    ]

abbrev pub KeptIs : KeyId → Store → ℕ → Kept → Type 0
KeptIs key s d new = (new ≡ kept_of s d key) ⊎ Took key s d new

-- of a replica's place that was changed
place_cases : (key : KeyId) (s : Store) (at d : ℕ) (r : Replica) (P : Kept → Type 0) → P (kept_of s d key) → (d ≡ at → P (kept_at r.state key)) → P (kept_of (with_replica s at r) d key)
place_cases key s at d r P same new =
    elim (set_cases s.replicas at d r no_replica) as (λ _. P (kept_of (with_replica s at r) d key)) [
      | inl e ↦ subst (λ (x : Replica). P (kept_at x.state key)) (sym e) same
      | inr e ↦ subst (λ (x : Replica). P (kept_at x.state key)) (sym e.1) (new e.0)
    ]

from_step : (key : KeyId) (s : Store) (d : ℕ) (message : Message) → Contains s.sent (record { to = to.Replica d; message = message })
    → (kept_at (step (replica_at s d).state message).state key ≡ kept_of s d key) ⊎ ((key_of message ≡ Some key) × (kept_at (step (replica_at s d).state message).state key ≡ kept_after (kept_of s d key) message))
    → KeptIs key s d (kept_at (step (replica_at s d).state message).state key)
from_step key s d message sent (inl same) = inl same
from_step key s d message sent (inr new) = inr (record { message = message; sent = sent; at = new.0; is = new.1 })

-- after an event a replica keeps of a key what it kept, or what a message of the key made of it
pub kept_cases : (key : KeyId) (s : Store) (h : Happening) → Happened s h → (d : ℕ) → KeptIs key s d (kept_of h.store d key)
kept_cases key s h (replica_stopped at is) d =
    subst (λ (x : Happening). KeptIs key s d (kept_of x.store d key)) (sym is)
    (place_cases key s at d (record { stopped = true; state = (replica_at s at).state }) (KeptIs key s d) (inl refl) (λ e. inl (ap (λ (n : ℕ). kept_of s n key) (sym e))))
kept_cases key s h (replica_took at message sent is) d =
    subst (λ (x : Happening). KeptIs key s d (kept_of x.store d key)) (sym is)
    (place_cases key s at d (record { stopped = false; state = (step (replica_at s at).state message).state }) (KeptIs key s d) (inl refl)
    (λ e. subst (λ (n : ℕ). KeptIs key s n (kept_at (step (replica_at s at).state message).state key)) (sym e) (from_step key s at message sent.sent (step_cases (replica_at s at).state message key (key_of message) refl))))
kept_cases key s h o d = inl (ap (λ (x : Happening). kept_of x.store d key) (is_made s h o))

-- ---- what a replica keeps after a message is known, if it was and the message was sent

-- what a replica keeps is known
abbrev pub KeepsKnown : KeyId → Store → Kept → Type 0
KeepsKnown key s kept = IsKnown key s kept.version kept.value

either_known : (key : KeyId) (s : Store) (b : Bool) (one other : Kept) → KeepsKnown key s one → KeepsKnown key s other → KeepsKnown key s (if b then one else other)
either_known key s true one other h k = h
either_known key s false one other h k = k

merge_known : (key : KeyId) (s : Store) (kept : Kept) (stamp : Stamp) (value : List ℕ) → IsKnown key s stamp value → KeepsKnown key s kept → KeepsKnown key s (merge kept stamp value)
merge_known key s kept stamp value h k = either_known key s (is_gt (stamp_cmp stamp kept.version)) (record kept { version = stamp; value = value }) kept h k

-- what a message that carries a value rests on
pub record CarriesKnown (key : KeyId) (s : Store) : Type 0 where
  pub repairs : (tag : Tag) (epoch : ℕ) (stamp : Stamp) (value : List ℕ) → WasSent s (m.Repair tag key epoch stamp value) → IsKnown key s stamp value
  pub seeds : (tag : Tag) (epoch : ℕ) (stamp : Stamp) (value : List ℕ) → WasSent s (m.Seed tag key epoch stamp value) → IsKnown key s stamp value

after_merge_known : (key : KeyId) (s : Store) (kept : Kept) (epoch : ℕ) (stamp : Stamp) (value : List ℕ) → IsKnown key s stamp value → KeepsKnown key s kept → KeepsKnown key s (after_merge kept epoch stamp value)
after_merge_known key s kept epoch stamp value h k = either_known key s (is_over kept epoch) kept (merge kept stamp value) k (merge_known key s kept stamp value h k)

after_store_known : (key : KeyId) (s : Store) (kept : Kept) (stamp : Stamp) (value : List ℕ) → IsKnown key s stamp value → KeepsKnown key s kept → KeepsKnown key s (after_store kept stamp value)
after_store_known key s kept stamp value h k = either_known key s (not (is_over kept stamp.epoch) && stores stamp kept.fence) (merge kept stamp value) kept (merge_known key s kept stamp value h k) k

after_ask_known : (key : KeyId) (s : Store) (kept : Kept) (stamp : Stamp) → KeepsKnown key s kept → KeepsKnown key s (after_ask kept stamp)
after_ask_known key s kept stamp k = either_known key s (not (is_over kept stamp.epoch) && grants stamp kept.fence kept.version) (record kept { fence = stamp }) kept k k

pub kept_known : (key : KeyId) (s : Store) (kept : Kept) (message : Message) → CarriesKnown key s → IsPushFree message → WasSent s message → ((other : KeyId) → request_key message ≡ Some other → other ≡ key) → KeepsKnown key s kept → KeepsKnown key s (kept_after kept message)
kept_known key s kept (m.Ask tag at stamp) c f w is k = after_ask_known key s kept stamp k
kept_known key s kept (m.Store tag at stamp value) c f w is k =
    after_store_known key s kept stamp value (inr (record { tag = tag; sent = subst (λ (x : KeyId). WasSent s (m.Store tag x stamp value)) (is at refl) w })) k
kept_known key s kept (m.Repair tag at epoch stamp value) c f w is k =
    after_merge_known key s kept epoch stamp value (c.repairs tag epoch stamp value (subst (λ (x : KeyId). WasSent s (m.Repair tag x epoch stamp value)) (is at refl) w)) k
kept_known key s kept (m.Seed tag at epoch stamp value) c f w is k =
    after_merge_known key s kept epoch stamp value (c.seeds tag epoch stamp value (subst (λ (x : KeyId). WasSent s (m.Seed tag x epoch stamp value)) (is at refl) w)) k
kept_known key s kept (m.Push tag at stamp onward value) c f w is k = absurd f
kept_known key s kept message c f w is k = k

-- ---- every event keeps what the replicas' versions rest on, and lets nothing fall

-- what was known is known after the event
known_after : (key : KeyId) (s : Store) (h : Happening) (stamp : Stamp) (value : List ℕ) → Happened s h → IsKnown key s stamp value → IsKnown key h.store stamp value
known_after key s h stamp value is (inl first) = inl first
known_after key s h stamp value is (inr stored) = inr (record { tag = stored.tag; sent = (stored.sent.0, sent_grows s h is (record { to = stored.sent.0; message = m.Store stored.tag key stamp value }) stored.sent.1) })

-- the key of a request to a replica is its key
pub is_request : (message : Message) (key : KeyId) → key_of message ≡ Some key → request_key message ≡ Some key
is_request (m.Lookup tag at) key a = cc
is_request message key a = cc

pub request_of : (message : Message) (key other : KeyId) → key_of message ≡ Some key → request_key message ≡ Some other → other ≡ key
request_of message key other a b = let e = is_request message key a in cc

version_from : (key : KeyId) (s : Store) (h : Happening) (d : ℕ) (new : Kept) → Happened s h → CarriesKnown key s → ((message : Message) → WasSent s message → request_key message ≡ Some key → IsPushFree message)
    → KeepsKnown key s (kept_of s d key) → KeptIs key s d new → IsKnown key h.store new.version new.value
version_from key s h d new is carries no_push known (inl same) =
    subst (λ (x : Kept). IsKnown key h.store x.version x.value) (sym same) (known_after key s h (kept_of s d key).version (kept_of s d key).value is known)
version_from key s h d new is carries no_push known (inr took) =
    let sent : WasSent s took.message = (to.Replica d, took.sent) in
    let after = kept_known key s (kept_of s d key) took.message carries (no_push took.message sent (is_request took.message key took.at)) sent (λ other e. request_of took.message key other took.at e) known in
    subst (λ (x : Kept). IsKnown key h.store x.version x.value) (sym took.is) (known_after key s h (kept_after (kept_of s d key) took.message).version (kept_after (kept_of s d key) took.message).value is after)

-- the conjunct on versions is kept by every event
pub versions_known : (key : KeyId) (s : Store) (h : Happening) → Happened s h → CarriesKnown key s → ((message : Message) → WasSent s message → request_key message ≡ Some key → IsPushFree message)
    → ((d : ℕ) → KeepsKnown key s (kept_of s d key)) → (d : ℕ) → KeepsKnown key h.store (kept_of h.store d key)
versions_known key s h is carries no_push known d = version_from key s h d (kept_of h.store d key) is carries no_push (known d) (kept_cases key s h is d)

rises_from : (key : KeyId) (s : Store) (d : ℕ) (new : Kept) → KeptIs key s d new → Rises (kept_of s d key) new
rises_from key s d new (inl same) = subst (λ (x : Kept). Rises (kept_of s d key) x) (sym same) (rises_itself (kept_of s d key))
rises_from key s d new (inr took) = subst (λ (x : Kept). Rises (kept_of s d key) x) (sym took.is) (kept_after_rises (kept_of s d key) took.message)

-- nothing that a replica keeps falls at any event
pub rises : (key : KeyId) (s : Store) (h : Happening) → Happened s h → (d : ℕ) → Rises (kept_of s d key) (kept_of h.store d key)
rises key s h is d = rises_from key s d (kept_of h.store d key) (kept_cases key s h is d)
