-- What the directory, the proxies' knowledge and the marks of the key rest on.
use Rattle.std.specs.Prelude.{◌≡◌, ◌⊎◌, ℕ, ◌<◌, ◌≤◌, true, List, [], ◌∷◌, ◌++◌, length, Some, IsSome, Contains}
use Rattle.span_base.specs.declared.ids.Call.{Call}
use Rattle.span_base.specs.declared.ids.KeyId.{KeyId}
use Rattle.span_base.specs.Policy.{IsQuorumPolicy}
use Rattle.ticket_rules.specs.declared.stamp.Stamp.{Stamp}
use Rattle.ticket_rules.specs.Stamp.{stamp_zero, IsAtMost}
use Rattle.wire_msg.specs.declared.tag.Tag.{Tag}
use Rattle.wire_msg.specs.declared.outputs.Reply.{Reply}
use Rattle.wire_msg.specs.declared.message.Message.TheVariants as m
use Rattle.wire_msg.specs.declared.outputs.Reply.TheVariants as r
use Rattle.slot_pool.specs.declared.handles.Handle.{Handle}
use Rattle.epoch_directory.specs.State.{latest, current_of}
use Rattle.run_marks.specs.declared.mark.Work.{Work}
use Rattle.run_marks.specs.declared.mark.Mark.{Mark}
use Rattle.run_marks.specs.History.{is_dead, call_of, EndsWith}
use Rattle.run_marks.specs.declared.mark.Work.TheVariants as w
use Rattle.run_marks.specs.declared.mark.Mark.TheVariants as k
use Rattle.world_core.specs.declared.live.LiveCall.{LiveCall}
use Rattle.world_core.specs.State.{Store, proxy_at, view_at, policy_of}
use Rattle.world_core.specs.Calls.{tag_of_call, key_of_call}
use Rattle.world_core.specs.declared.live.LiveCall.TheVariants as live_call
use Rattle.register_law.specs.Ghost.{Ghost, Begun, answered_with, is_noted}
use Rattle.register_law.specs.Seen.{WasSent, IsKept, IsSettled}
use Rattle.register_law.specs.Tags.{IsLiveAt}

-- a switch from one epoch to the other was asked for
pub record WasSwitched (key : KeyId) (s : Store) (old new : ℕ) : Type 0 where
  pub tag : Tag
  pub sent : WasSent s (m.Switch tag key old new)

-- each epoch is above the next one, and was opened from it; the last one is the first
abbrev pub IsChain : KeyId → Store → List ℕ → Type 0
IsChain key s [] = ⊥
IsChain key s (new ∷ []) = new ≡ 1
IsChain key s (new ∷ old ∷ rest) = (old < new) × WasSwitched key s old new × IsChain key s (old ∷ rest)

-- the newest epoch
abbrev pub IsNewest : ℕ → List ℕ → Type 0
IsNewest epoch [] = ⊥
IsNewest epoch (new ∷ rest) = new ≡ epoch

pub record OpeningsAreBacked (key : KeyId) (s : Store) (g : Ghost) : Type 0 where
  pub chain : IsChain key s g.opened
  pub newest : IsNewest (current_of s.directory key) g.opened
  pub published : (e : ℕ) → Contains g.opened e → (1 ≤ e) × (e ≤ latest s.directory)
  pub view_opened : (p : ℕ) → p < length s.proxies → Contains g.opened (view_at (proxy_at s p).views key).epoch × ((view_at (proxy_at s p).views key).policy ≡ policy_of s key (view_at (proxy_at s p).views key).epoch)
  pub policies_quorum : (e : ℕ) → 1 ≤ e → e ≤ latest s.directory → IsQuorumPolicy (policy_of s key e)

-- a Store with this stamp was sent by the call
pub record StoredBy (key : KeyId) (s : Store) (call : Call) (stamp : Stamp) (value : List ℕ) : Type 0 where
  pub tag : Tag
  pub of : tag.call ≡ call
  pub sent : WasSent s (m.Store tag key stamp value)

-- a read gave what was there at first, or what a write whose ticket was noted has stored
abbrev pub IsReadOf : KeyId → Store → Stamp → List ℕ → Type 0
IsReadOf key s stamp value = ((stamp ≡ stamp_zero) × (value ≡ [])) ⊎ ((writer : Call) × StoredBy key s writer stamp value)

-- the call's begin stands here, and this is the greatest answer before it
pub record BegunAfter (g : Ghost) (call : Call) (b : Begun) (key : KeyId) : Type 0 where
  pub earlier : List Mark
  pub later : List Mark
  pub split : g.marks ≡ earlier ++ k.Begin call key b.work ∷ later
  pub floor : (other : Call) (reply : Reply) (stamp : Stamp) → IsSome (g.begun other) → EndsWith earlier other reply → answered_with reply ≡ Some stamp → IsAtMost stamp b.floor

-- the call reads, writes or moves a strong key
abbrev pub IsOfStrong : LiveCall → Type 0
IsOfStrong (live_call.Strong call) = Unit {0}
IsOfStrong (live_call.Eventual call) = ⊥
IsOfStrong (live_call.StrongMove call) = Unit {0}
IsOfStrong (live_call.EventualMove call) = ⊥

-- the call's begin is marked
pub record HasBegin (marks : List Mark) (call : Call) : Type 0 where
  pub at : KeyId
  pub work : Work
  pub marked : Contains marks (k.Begin call at work)

pub record EndsAreBacked (key : KeyId) (s : Store) (g : Ghost) : Type 0 where
  pub begun_floor : (call : Call) (b : Begun) → g.begun call ≡ Some b → Contains g.opened b.epoch × IsSettled key s g b.epoch b.floor
  pub top_kept : IsKept key s g g.top
  pub ok_reads : (call : Call) (b : Begun) (stamp : Stamp) (value : List ℕ) → g.begun call ≡ Some b → EndsWith g.marks call (r.Value stamp value) → (b.work ≡ w.Read) × IsAtMost b.floor stamp × IsReadOf key s stamp value
  pub ok_writes : (call : Call) (b : Begun) (stamp : Stamp) → g.begun call ≡ Some b → EndsWith g.marks call (r.Stored stamp) → (value : List ℕ) × (b.work ≡ w.Write value) × StoredBy key s call stamp value
  pub dead_writes : (call : Call) (reply : Reply) (stamp : Stamp) (value : List ℕ) → IsSome (g.begun call) → EndsWith g.marks call reply → is_dead reply ≡ true → StoredBy key s call stamp value → ⊥
  pub ended : (call : Call) (reply : Reply) (p : ℕ) (handle : Handle) (live : LiveCall) → EndsWith g.marks call reply → IsLiveAt s p handle live → (tag_of_call live).call ≡ call → ⊥
  pub begins : (call : Call) (b : Begun) → g.begun call ≡ Some b → BegunAfter g call b key
  pub begins_once : (call : Call) (at : KeyId) (work : Work) (earlier later : List Mark) → g.marks ≡ earlier ++ k.Begin call at work ∷ later → (other : KeyId) (again : Work) → (Contains earlier (k.Begin call other again) → ⊥) × (Contains later (k.Begin call other again) → ⊥)
  pub begun_first : (call : Call) (reply : Reply) (earlier later : List Mark) → g.marks ≡ earlier ++ k.End call reply ∷ later → (at : KeyId) × (work : Work) × Contains earlier (k.Begin call at work)
  pub ends_once : (call : Call) (one other : Reply) → EndsWith g.marks call one → EndsWith g.marks call other → one ≡ other
  pub marks_numbered : (call : Call) (mark : Mark) → Contains g.marks mark → call_of mark ≡ Some call → (1 ≤ call.seq) × (call.seq ≤ (proxy_at s call.proxy).begun)
  pub top_greatest : (call : Call) (reply : Reply) (stamp : Stamp) → IsSome (g.begun call) → EndsWith g.marks call reply → answered_with reply ≡ Some stamp → IsAtMost stamp g.top
  pub tickets : (call : Call) (stamp : Stamp) → Contains g.marks (k.Ticket call stamp) → (stamp.proxy ≡ call.proxy) × (stamp.seq ≡ call.seq) × (1 ≤ stamp.number)
  pub live_kinds : (p : ℕ) (handle : Handle) (live : LiveCall) → IsLiveAt s p handle live → key_of_call live ≡ key → IsOfStrong live
  pub live_marked : (p : ℕ) (handle : Handle) (live : LiveCall) → IsLiveAt s p handle live → HasBegin g.marks (tag_of_call live).call
  pub noted : (call : Call) (work : Work) → Contains g.marks (k.Begin call key work) → is_noted work ≡ true → IsSome (g.begun call)
