-- What becomes of messages that are delivered, and what a move that goes on rests on.
use Rattle.std.specs.Prelude.{ℕ, ◌≡◌, ◌⊎◌, ◌+◌, ◌<◌, ◌≤◌, ◌==◌, ◌^◌, nat_le, Bool, true, false, List, length, slice_get, Some, Contains}
use Rattle.span_base.specs.Policy.{IsSoundPolicy}
use Rattle.span_base.specs.PolicyParts.{faults_of}
use Rattle.span_base.specs.DcSet.{has, bits_of, no_centre, centres_of}
use Rattle.span_base.specs.declared.ids.Call.{Call}
use Rattle.span_base.specs.declared.ids.KeyId.{KeyId}
use Rattle.span_base.specs.declared.dc_set.DcSet.{DcSet}
use Rattle.span_base.specs.declared.policy.Policy.{Policy}
use Rattle.ticket_rules.specs.declared.stamp.Stamp.{Stamp}
use Rattle.ticket_rules.specs.Stamp.{stamp_zero, IsAtMost}
use Rattle.wire_msg.specs.declared.tag.Tag.{Tag}
use Rattle.wire_msg.specs.declared.actor.Actor.{Actor}
use Rattle.wire_msg.specs.declared.message.Message.{Message}
use Rattle.wire_msg.specs.declared.outputs.Post.{Post}
use Rattle.wire_msg.specs.Posts.{tag_of}
use Rattle.wire_msg.specs.declared.actor.Actor.TheVariants as to
use Rattle.wire_msg.specs.declared.message.Message.TheVariants as m
use Rattle.call_phase.specs.declared.phase.Phase.{Phase}
use Rattle.epoch_directory.specs.State.{latest, current_of, is_strong}
use Rattle.migration.specs.declared.stage.Stage.{Stage}
use Rattle.migration.specs.declared.stage.Stage.TheVariants as stage
use Rattle.migration.specs.Move.{Moving}
use Rattle.relay_proxy.specs.Routes.{is_direct, onward_of}
use Rattle.slot_pool.specs.declared.handles.Handle.{Handle}
use Rattle.world_core.specs.declared.live.LiveCall.{LiveCall}
use Rattle.world_core.specs.declared.live.LiveCall.TheVariants.{EventualMove}
use Rattle.world_core.specs.Calls.{tag_of_call}
use Rattle.world_core.specs.State.{Store, replica_at, proxy_at, kept_of, policy_of}
use Rattle.register_law.specs.Ghost.{Ghost}
use Rattle.register_law.specs.Seen.{WasSent}
use Rattle.register_law.specs.Tags.{IsLiveAt}
use Rattle.eventual_law.specs.Known.{VersionsAre}

-- a policy that an eventual set may have
pub record IsSoundEventual (policy : Policy) : Type 0 where
  pub sound : IsSoundPolicy policy
  pub eventual : is_strong policy ≡ false

-- the handle that a tag has
abbrev pub handle_of : Tag → Handle
handle_of tag = record { slot = tag.slot; generation = tag.generation }

-- a push of the key that the replica took and didn't refuse: it has the stamp, and passed it on
pub record HasPushed (key : KeyId) (s : Store) (d : ℕ) (tag : Tag) (stamp : Stamp) (onward : DcSet) (value : List ℕ) : Type 0 where
  pub reached : IsAtMost stamp (kept_of s d key).version
  pub passed : (e : ℕ) → has onward e ≡ true → Contains s.sent (record { to = to.Replica e; message = m.Push tag key stamp no_centre value })

-- what a replica that isn't stopped made of a message of the key
abbrev pub ByReplica : KeyId → Store → ℕ → Message → Type 0
ByReplica key s d (m.Push tag at stamp onward value) = at ≡ key → (stamp.epoch ≤ (kept_of s d key).frozen) ⊎ HasPushed key s d tag stamp onward value
ByReplica key s d (m.Seed tag at epoch stamp value) =
    at ≡ key → (epoch ≤ (kept_of s d key).frozen) ⊎ (IsAtMost stamp (kept_of s d key).version × Contains s.sent (record { to = to.Proxy tag.call.proxy; message = m.Yes tag (record { 0 = d }) }))
ByReplica key s d (m.Freeze tag at epoch) =
    at ≡ key → (version : Stamp) × (mark : Stamp) × (value : List ℕ) × Contains s.sent (record { to = to.Proxy tag.call.proxy; message = m.Have tag (record { 0 = d }) version mark value })
ByReplica key s d _ = Unit {0}

-- what the directory made of a message of the key
abbrev pub ByDirectory : KeyId → Store → Message → Type 0
ByDirectory key s (m.Switch tag at old new) = at ≡ key → (done : Bool) × (epoch : ℕ) × Contains s.sent (record { to = to.Proxy tag.call.proxy; message = m.Switched tag key done epoch })
ByDirectory key s _ = Unit {0}

-- an answer has counted, if it was to
abbrev pub HasCounted : Stage → Phase → Message → Type 0
HasCounted (stage.Freezing old new best) phase (m.Have tag replica version mark value) = has phase.asked replica.0 ≡ true → has phase.good replica.0 ≡ true
HasCounted (stage.Seeding old new frozen seeded top_gone) phase (m.Yes tag replica) = has phase.asked replica.0 ≡ true → has phase.good replica.0 ≡ true
HasCounted (stage.Switching old new frozen seeded) phase (m.Switched tag key done epoch) = ⊥
HasCounted stage phase message = Unit {0}

-- what a proxy that isn't stopped made of a message: a move of the key that lives in its phase has counted it
abbrev pub ByProxy : KeyId → Store → ℕ → Message → Type 0
ByProxy key s p message = (handle : Handle) (call : Moving) → IsLiveAt s p handle (EventualMove call) → call.key ≡ key → call.phase.tag ≡ tag_of message → HasCounted call.stage call.phase message

-- what became of a message that was delivered
abbrev pub WasTaken : KeyId → Store → Actor → Message → Type 0
WasTaken key s (to.Replica d) message = ((replica_at s d).stopped ≡ true) ⊎ ByReplica key s d message
WasTaken key s (to.Proxy p) message = ((proxy_at s p).stopped ≡ true) ⊎ ByProxy key s p message
WasTaken key s to.Directory message = ByDirectory key s message

-- the message of this number was sent, and delivered
pub record IsDone (key : KeyId) (s : Store) (n : ℕ) : Type 0 where
  pub post : Post
  pub sent : slice_get s.sent n ≡ Some post
  pub taken : WasTaken key s post.to post.message

-- the move closes this epoch
abbrev pub Closes : ℕ → Stage → Type 0
Closes epoch stage.Looking = ⊥
Closes epoch (stage.Freezing old new best) = old.number ≡ epoch
Closes epoch (stage.Seeding old new frozen seeded top_gone) = old ≡ epoch
Closes epoch (stage.Switching old new frozen seeded) = old ≡ epoch
Closes epoch stage.Ended = ⊥

-- a move of this call lives, and closes the epoch
pub record IsClosing (key : KeyId) (s : Store) (call : Call) (epoch : ℕ) : Type 0 where
  pub p : ℕ
  pub handle : Handle
  pub move : Moving
  pub lives : IsLiveAt s p handle (EventualMove move)
  pub at_key : move.key ≡ key
  pub of : move.phase.tag.call ≡ call
  pub closes : Closes epoch move.stage

-- no replica refused
abbrev pub NoneRefused : Phase → Type 0
NoneRefused phase = (d : ℕ) → has phase.bad d ≡ false

-- the answers that counted are too few, and none was a refusal
abbrev pub IsOpenStill : Stage → Phase → Type 0
IsOpenStill (stage.Freezing old new best) phase = ((bits_of phase.good == bits_of phase.asked) ≡ false) × (bits_of phase.good < 2 ^ 16) × ((d : ℕ) → has phase.good d ≡ true → has phase.asked d ≡ true) × NoneRefused phase
IsOpenStill (stage.Seeding old new frozen seeded top_gone) phase = (nat_le (faults_of new.policy + 1) (length (centres_of phase.good)) ≡ false) × NoneRefused phase
IsOpenStill stage phase = Unit {0}

-- the put of this push sent it to each replica that its member writes to
pub record IsSpread (key : KeyId) (s : Store) (stamp : Stamp) : Type 0 where
  pub published : (1 ≤ stamp.epoch) × (stamp.epoch ≤ latest s.directory)
  pub tag : Tag
  pub member : ℕ
  pub value : List ℕ
  pub sent : (p : ℕ) → is_direct (policy_of s key stamp.epoch) member p ≡ true → Contains s.sent (record { to = to.Replica p; message = m.Push tag key stamp (onward_of (policy_of s key stamp.epoch) member p) value })

-- zero, or the stamp of a push
abbrev pub IsZeroOrPushed : KeyId → Store → Stamp → List ℕ → Type 0
IsZeroOrPushed key s stamp value = (stamp ≡ stamp_zero) ⊎ IsSpread key s stamp

pub record MovesGoOn (key : KeyId) (s : Store) (g : Ghost) : Type 0 where
  pub handles : (p : ℕ) (handle : Handle) (live : LiveCall) → IsLiveAt s p handle live → handle_of (tag_of_call live) ≡ handle
  pub sound : (e : ℕ) → 1 ≤ e → e ≤ latest s.directory → IsSoundEventual (policy_of s key e)
  pub freeze_opened : (tag : Tag) (epoch : ℕ) → WasSent s (m.Freeze tag key epoch) → Contains g.opened epoch
  pub frozen_by : (d : ℕ) → ((kept_of s d key).frozen ≡ 0) ⊎ ((tag : Tag) × WasSent s (m.Freeze tag key (kept_of s d key).frozen))
  pub gone_seed : (tag : Tag) (d epoch last : ℕ) (stamp : Stamp) (value : List ℕ) → WasSent s (m.Seed tag key epoch stamp value) → WasSent s (m.Gone tag (record { 0 = d }) last) → epoch ≤ (kept_of s d key).frozen
  pub not_switched : (tag : Tag) (epoch : ℕ) → WasSent s (m.Switched tag key false epoch) → (old : ℕ) × (new : ℕ) × WasSent s (m.Switch tag key old new) × (old < current_of s.directory key)
  pub undecided : (p : ℕ) (handle : Handle) (call : Moving) → IsLiveAt s p handle (EventualMove call) → call.key ≡ key → IsOpenStill call.stage call.phase
  pub closing : (tag : Tag) → WasSent s (m.Freeze tag key (current_of s.directory key)) → IsClosing key s tag.call (current_of s.directory key)
  pub pushed : (d : ℕ) (tag : Tag) (stamp : Stamp) (onward : DcSet) (value : List ℕ) → Contains s.sent (record { to = to.Replica d; message = m.Push tag key stamp onward value }) → IsSpread key s stamp
  pub versions : VersionsAre key s (λ stamp value. IsZeroOrPushed key s stamp value)
