-- Where the values of an eventual key come from.
use Rattle.std.specs.Prelude.{ℕ, ◌≡◌, ◌⊎◌, ◌≤◌, List, [], ◌∷◌, ◌++◌, Some, Contains}
use Rattle.span_base.specs.declared.ids.Call.{Call}
use Rattle.span_base.specs.declared.ids.DcId.{DcId}
use Rattle.span_base.specs.declared.ids.KeyId.{KeyId}
use Rattle.span_base.specs.declared.dc_set.DcSet.{DcSet}
use Rattle.ticket_rules.specs.declared.stamp.Stamp.{Stamp}
use Rattle.ticket_rules.specs.Stamp.{stamp_zero}
use Rattle.wire_msg.specs.declared.tag.Tag.{Tag}
use Rattle.wire_msg.specs.declared.message.Message.{Message}
use Rattle.wire_msg.specs.declared.message.Message.TheVariants as m
use Rattle.wire_msg.specs.declared.outputs.Reply.TheVariants as r
use Rattle.call_phase.specs.declared.best.Found.{Found}
use Rattle.run_marks.specs.declared.mark.Work.{Work}
use Rattle.run_marks.specs.declared.mark.Mark.{Mark}
use Rattle.run_marks.specs.declared.mark.Mark.TheVariants as k
use Rattle.migration.specs.Move.{Moving}
use Rattle.migration.specs.declared.stage.Epoch.{Epoch}
use Rattle.migration.specs.declared.stage.Stage.TheVariants as stage
use Rattle.slot_pool.specs.declared.handles.Handle.{Handle}
use Rattle.world_core.specs.declared.live.LiveCall.{LiveCall}
use Rattle.world_core.specs.declared.live.LiveCall.TheVariants.{EventualMove}
use Rattle.world_core.specs.State.{Store, kept_of, proxy_at}
use Rattle.wire_msg.specs.Posts.{tag_of}
use Rattle.world_core.specs.Calls.{tag_of_call, key_of_call}
use Rattle.register_law.specs.Seen.{WasSent}
use Rattle.register_law.specs.Tags.{IsLiveAt, request_key}
use Rattle.eventual_law.specs.Puts.{IsGet, IsPutOf}
use Rattle.eventual_law.specs.Kinds.{KeyIsEventual}

-- the call is of the key: one of its requests is, or it lives on the key, or it began on it
pub data IsOn (s : Store) (marks : List Mark) (call : Call) (key : KeyId) : Type 0 where
  by_request : (request : Message) → WasSent s request → request_key request ≡ Some key → (tag_of request).call ≡ call → IsOn s marks call key
  by_life : (p : ℕ) (handle : Handle) (live : LiveCall) → IsLiveAt s p handle live → key_of_call live ≡ key → (tag_of_call live).call ≡ call → IsOn s marks call key
  by_begin : (work : Work) → Contains marks (k.Begin call key work) → IsOn s marks call key

-- of the calls of all keys
pub record CallsHaveKeys (s : Store) (marks : List Mark) : Type 0 where
  pub one_key : (call : Call) (key other : KeyId) → IsOn s marks call key → IsOn s marks call other → key ≡ other
  pub begun : (call : Call) (at : KeyId) (work : Work) → Contains marks (k.Begin call at work) → call.seq ≤ (proxy_at s call.proxy).begun

-- the value was there at first, or is a put's under its ticket
abbrev pub IsKnownPut : KeyId → List Mark → Stamp → List ℕ → Type 0
IsKnownPut key marks stamp value = ((stamp ≡ stamp_zero) × (value ≡ [])) ⊎ IsPutOf key marks stamp value

-- the same is said of every version of the key that is seeded, kept, told and found
pub record VersionsAre (key : KeyId) (s : Store) (P : Stamp → List ℕ → Type 0) : Type 0 where
  pub seeded : (tag : Tag) (epoch : ℕ) (stamp : Stamp) (value : List ℕ) → WasSent s (m.Seed tag key epoch stamp value) → P stamp value
  pub kept : (d : ℕ) → P (kept_of s d key).version (kept_of s d key).value
  pub had : (tag : Tag) (replica : DcId) (version mark : Stamp) (value : List ℕ) → WasSent s (m.Have tag replica version mark value) → (request : Message) → WasSent s request → request_key request ≡ Some key → tag_of request ≡ tag → P version value
  pub best : (p : ℕ) (handle : Handle) (call : Moving) (old target : Epoch) (found : Found) → IsLiveAt s p handle (EventualMove call) → call.key ≡ key → call.stage ≡ stage.Freezing old target (Some found) → P found.stamp found.value

-- of one eventual key
pub record ValuesAreKnown (key : KeyId) (s : Store) (marks : List Mark) : Type 0 where
  pub pushed : (tag : Tag) (stamp : Stamp) (onward : DcSet) (value : List ℕ) → WasSent s (m.Push tag key stamp onward value) → IsKnownPut key marks stamp value
  pub versions : VersionsAre key s (IsKnownPut key marks)
  pub given : (call : Call) (stamp : Stamp) (value : List ℕ) (earlier later : List Mark) → marks ≡ earlier ++ k.End call (r.Value stamp value) ∷ later → IsGet key earlier call → IsKnownPut key earlier stamp value

-- all that the law on values rests on
pub record Known (key : KeyId) (s : Store) (marks : List Mark) : Type 0 where
  pub kinds : KeyIsEventual key s
  pub calls : CallsHaveKeys s marks
  pub values : ValuesAreKnown key s marks
