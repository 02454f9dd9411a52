-- Tags tell calls, phases and requests apart.
use Rattle.std.specs.Prelude.{◌≡◌, ℕ, ◌<◌, ◌≤◌, Option, Some, None, IsSome, length}
use Rattle.span_base.specs.declared.ids.Call.{Call}
use Rattle.span_base.specs.declared.ids.KeyId.{KeyId}
use Rattle.wire_msg.specs.declared.tag.Tag.{Tag}
use Rattle.wire_msg.specs.declared.message.Message.{Message}
use Rattle.wire_msg.specs.Posts.{tag_of}
use Rattle.wire_msg.specs.declared.message.Message.TheVariants as m
use Rattle.slot_pool.specs.declared.handles.Handle.{Handle}
use Rattle.slot_pool.specs.Slots.{item_at}
use Rattle.world_core.specs.declared.live.LiveCall.{LiveCall}
use Rattle.world_core.specs.State.{Store, proxy_at, view_at}
use Rattle.world_core.specs.Calls.{tag_of_call, key_of_call}
use Rattle.register_law.specs.Ghost.{Ghost}
use Rattle.register_law.specs.Seen.{WasSent}

-- the key of a request; answers have none
abbrev pub request_key : Message → Option KeyId
request_key (m.Read tag key epoch) = Some key
request_key (m.Ask tag key stamp) = Some key
request_key (m.Store tag key stamp value) = Some key
request_key (m.Repair tag key epoch stamp value) = Some key
request_key (m.Confirm tag key stamp) = Some key
request_key (m.Freeze tag key epoch) = Some key
request_key (m.Seed tag key epoch stamp value) = Some key
request_key (m.Push tag key stamp onward value) = Some key
request_key (m.Lookup tag key) = Some key
request_key (m.Switch tag key closing opening) = Some key
request_key _ = None

-- the tags are of one phase of one call
pub record IsSamePoint (a b : Tag) : Type 0 where
  pub call : a.call ≡ b.call
  pub phase : a.phase ≡ b.phase

-- the proxy of this number has this call under the handle
abbrev pub IsLiveAt : Store → ℕ → Handle → LiveCall → Type 0
IsLiveAt s p handle call = item_at (proxy_at s p).calls handle ≡ Some call

-- the tag is that of a call that was begun
pub record IsNumbered (s : Store) (tag : Tag) : Type 0 where
  pub proxy : tag.call.proxy < length s.proxies
  pub some : 1 ≤ tag.call.seq
  pub begun : tag.call.seq ≤ (proxy_at s tag.call.proxy).begun
  pub phase : 1 ≤ tag.phase

-- the message isn't a Push
abbrev pub IsPushFree : Message → Type 0
IsPushFree (m.Push tag key stamp onward value) = ⊥
IsPushFree _ = Unit {0}

-- of the calls, the views and the messages of all keys
pub record TagsTellApart (s : Store) : Type 0 where
  pub sent_numbered : (message : Message) → WasSent s message → IsNumbered s (tag_of message)
  pub live_numbered : (p : ℕ) (handle : Handle) (call : LiveCall) → IsLiveAt s p handle call → IsNumbered s (tag_of_call call) × ((tag_of_call call).call.proxy ≡ p)
  pub live_once : (p : ℕ) (a b : Handle) (first second : LiveCall) → IsLiveAt s p a first → IsLiveAt s p b second → (tag_of_call first).call ≡ (tag_of_call second).call → a ≡ b
  pub view_keys : (p : ℕ) (key : KeyId) → p < length s.proxies → key.0 < length s.directory.sets → (view_at (proxy_at s p).views key).key ≡ key
  pub phase_bound : (p : ℕ) (handle : Handle) (call : LiveCall) (message : Message) → IsLiveAt s p handle call → WasSent s message → (tag_of message).call ≡ (tag_of_call call).call → (tag_of message).phase ≤ (tag_of_call call).phase
  pub answers_asked : (message : Message) → WasSent s message → request_key message ≡ None → (request : Message) × WasSent s request × IsSome (request_key request) × (tag_of request ≡ tag_of message)

-- of one key
pub record RequestsAreOne (key : KeyId) (s : Store) (g : Ghost) : Type 0 where
  pub one_request : (a b : Message) → WasSent s a → WasSent s b → request_key a ≡ Some key → IsSome (request_key b) → IsSamePoint (tag_of a) (tag_of b) → a ≡ b
  pub request_begun : (request : Message) → WasSent s request → request_key request ≡ Some key → IsSome (g.begun (tag_of request).call)
  pub no_push : (message : Message) → WasSent s message → request_key message ≡ Some key → IsPushFree message
  pub live_begun : (p : ℕ) (handle : Handle) (call : LiveCall) → IsLiveAt s p handle call → key_of_call call ≡ key → IsSome (g.begun (tag_of_call call).call)
  pub begun_live : (p : ℕ) (handle : Handle) (call : LiveCall) → IsLiveAt s p handle call → IsSome (g.begun (tag_of_call call).call) → key_of_call call ≡ key
  pub begun_numbered : (call : Call) → IsSome (g.begun call) → (1 ≤ call.seq) × (call.seq ≤ (proxy_at s call.proxy).begun)
