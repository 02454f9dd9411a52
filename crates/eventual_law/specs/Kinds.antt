-- What is asked of an eventual key, and by which calls.
use Rattle.std.specs.Prelude.{ℕ, ◌≡◌, ◌<◌, ◌≤◌, false, length, Some}
use Rattle.span_base.specs.declared.ids.KeyId.{KeyId}
use Rattle.span_base.specs.DcSet.{no_centre}
use Rattle.wire_msg.specs.declared.message.Message.{Message}
use Rattle.wire_msg.specs.declared.message.Message.TheVariants as m
use Rattle.epoch_directory.specs.State.{latest}
use Rattle.slot_pool.specs.declared.handles.Handle.{Handle}
use Rattle.world_core.specs.declared.live.LiveCall.{LiveCall}
use Rattle.world_core.specs.declared.live.LiveCall.TheVariants.{Strong, Eventual, StrongMove, EventualMove}
use Rattle.world_core.specs.State.{Store, replica_at}
use Rattle.world_core.specs.Calls.{key_of_call}
use Rattle.world_core.specs.Step.{is_strong_key}
use Rattle.register_law.specs.Seen.{WasSent}
use Rattle.register_law.specs.Tags.{TagsTellApart, IsLiveAt, request_key}
use Rattle.register_law.specs.Replicas.{IsSeat}

-- the call gets, puts or moves an eventual key
abbrev pub IsOfEventual : LiveCall → Type 0
IsOfEventual (Strong call) = ⊥
IsOfEventual (Eventual call) = Unit {0}
IsOfEventual (StrongMove call) = ⊥
IsOfEventual (EventualMove call) = Unit {0}

-- the message carries no version, asks for no freeze and no switch, and isn't a strong key's
abbrev pub CarriesNone : Message → Type 0
CarriesNone (m.Ask tag key stamp) = ⊥
CarriesNone (m.Store tag key stamp value) = ⊥
CarriesNone (m.Repair tag key epoch stamp value) = ⊥
CarriesNone (m.Confirm tag key stamp) = ⊥
CarriesNone (m.Seed tag key epoch stamp value) = ⊥
CarriesNone (m.Push tag key stamp onward value) = ⊥
CarriesNone (m.Switch tag key old new) = ⊥
CarriesNone (m.Freeze tag key epoch) = ⊥
CarriesNone _ = Unit {0}

-- the message, as if a push were passed on to no one: then all copies of a request are one
abbrev pub shape : Message → Message
shape (m.Push tag key stamp onward value) = m.Push tag key stamp no_centre value
shape message = message

-- only strong keys are asked for tickets, for stores under them, for repairs and for confirmations
abbrev pub MayAskEventual : Message → Type 0
MayAskEventual (m.Ask tag key stamp) = ⊥
MayAskEventual (m.Store tag key stamp value) = ⊥
MayAskEventual (m.Repair tag key epoch stamp value) = ⊥
MayAskEventual (m.Confirm tag key stamp) = ⊥
MayAskEventual _ = Unit {0}

-- of one eventual key
pub record KeyIsEventual (key : KeyId) (s : Store) : Type 0 where
  pub tags : TagsTellApart s
  pub published : 1 ≤ latest s.directory
  pub eventual : is_strong_key s key ≡ false
  pub seats : (d : ℕ) → d < length s.replicas → IsSeat key d (replica_at s d).state
  pub live_kinds : (p : ℕ) (handle : Handle) (live : LiveCall) → IsLiveAt s p handle live → key_of_call live ≡ key → IsOfEventual live
  pub sent_kinds : (message : Message) → WasSent s message → request_key message ≡ Some key → MayAskEventual message
