-- How a read or a write leaves a phase: once its answers decide it, or as it is given up.
use Rattle.std.specs.Prelude.{◌≡◌, ℕ, ◌+◌, ◌<◌, ◌≤◌, true, false, List, length, slice_get, Some, Ok, Contains}
use Rattle.span_base.specs.declared.ids.KeyId.{KeyId}
use Rattle.span_base.specs.DcSet.{centres_of}
use Rattle.wire_msg.specs.declared.message.Message.{Message}
use Rattle.wire_msg.specs.declared.outputs.Reply.{Reply}
use Rattle.wire_msg.specs.declared.actor.Actor.TheVariants as to
use Rattle.wire_msg.specs.declared.outputs.Reply.TheVariants as r
use Rattle.call_phase.specs.declared.phase.Phase.{Phase}
use Rattle.call_phase.specs.Counting.{next_tag}
use Rattle.slot_pool.specs.declared.handles.Handle.{Handle}
use Rattle.strong_proxy.specs.declared.progress.Stage.{Stage}
use Rattle.strong_proxy.specs.declared.progress.Stage.TheVariants.{First, Second, Looking, Ended}
use Rattle.strong_proxy.specs.declared.progress.Progress.{Progress}
use Rattle.strong_proxy.specs.declared.state.CallState.{CallState}
use Rattle.strong_proxy.specs.Counting.{is_counted, counted}
use Rattle.run_marks.specs.declared.mark.Mark.TheVariants as k
use Rattle.world_core.specs.declared.event.Event.{Event}
use Rattle.world_core.specs.declared.event.Event.TheVariants.{Deliver}
use Rattle.world_core.specs.declared.event.Header.{Header}
use Rattle.world_core.specs.declared.live.LiveCall.TheVariants.{Strong}
use Rattle.world_core.specs.State.{Store, proxy_at, opening}
use Rattle.world_core.specs.Step.{Happening, step}
use Rattle.world_core.specs.Run.{IsHeader, MayRun, run_of}
use Rattle.world_core.specs.Laws.{IsStrongKey}
use Rattle.register_law.specs.Tags.{IsLiveAt}
use Rattle.register_law.specs.Live.{IsLiveStrong}
use Rattle.register_law.specs.Waiting.{IsUndecided}

-- all but f of the phase's replicas did as they were asked, or more than f refused
pub data IsDecidedBy (f : ℕ) (phase : Phase) : Type 0 where
  by_good : length (centres_of phase.asked) ≤ length (centres_of phase.good) + f → IsDecidedBy f phase
  by_bad : f < length (centres_of phase.bad) → IsDecidedBy f phase

-- what decides a phase: its answers, or the Here of its Lookup, which is all that counts there
abbrev pub IsDecided : Stage → Progress → Type 0
IsDecided First p = IsDecidedBy p.leg.f p.phase
IsDecided Second p = IsDecidedBy p.leg.f p.phase
IsDecided Looking p = Unit {0}
IsDecided Ended p = ⊥

-- the answers that counted leave it open
abbrev pub IsOpen : Stage → Progress → Type 0
IsOpen First p = IsUndecided p.leg.f p.phase
IsOpen Second p = IsUndecided p.leg.f p.phase
IsOpen Looking p = ⊥
IsOpen Ended p = ⊥

-- the call goes on with its next phase, or its end is marked
pub data Leaves (h : Happening) (p : ℕ) (handle : Handle) (call : CallState) : Type 0 where
  goes_on : (now : CallState) → IsLiveAt h.store p handle (Strong now) → now.progress.phase.tag ≡ next_tag call.progress.phase.tag → Leaves h p handle call
  ends : (reply : Reply) → Contains h.marks (k.End call.progress.phase.tag.call reply) → Leaves h p handle call

-- an answer that counts: it leaves its phase open, and the call stays in it, or decides the phase, and the call leaves it
pub data Counted (h : Happening) (p : ℕ) (handle : Handle) (call : CallState) (message : Message) : Type 0 where
  stays : IsOpen (counted call message).progress.stage (counted call message).progress → IsLiveAt h.store p handle (Strong (counted call message)) → Counted h p handle call message
  decides : IsDecided (counted call message).progress.stage (counted call message).progress → Leaves h p handle call → Counted h p handle call message

-- a read or a write in an event: nothing of it changes, or an answer counts, or it is given up
pub data Passes (s : Store) (h : Happening) (p : ℕ) (handle : Handle) (call : CallState) : Type 0 where
  unchanged : IsLiveAt h.store p handle (Strong call) → Passes s h p handle call
  counts : (message : Message) → Contains s.sent (record { to = to.Proxy p; message = message }) → is_counted call message ≡ true → Counted h p handle call message → Passes s h p handle call
  is_given_up : Contains h.marks (k.End call.progress.phase.tag.call r.GivenUp) → Passes s h p handle call

-- the event delivers the message to the proxy, which isn't stopped
pub record IsDelivered (s : Store) (e : Event) (p : ℕ) (message : Message) : Type 0 where
  pub place : ℕ
  pub delivers : e ≡ Deliver place
  pub sent : slice_get s.sent place ≡ Some (record { to = to.Proxy p; message = message })
  pub runs : (proxy_at s p).stopped ≡ false

-- at each event after every run
abbrev pub PhasesLast : Type 0
PhasesLast =
    (header : Header) (events : List Event) → IsHeader header → MayRun events (opening header) → (key : KeyId) → IsStrongKey header key.0
    → (e : Event) (h : Happening) → step (run_of header events).store e ≡ Ok h
    → (p : ℕ) (handle : Handle) (call : CallState) → IsLiveStrong key (run_of header events).store p handle call → Passes (run_of header events).store h p handle call

-- each answer that is to count does, where it is delivered to a proxy that isn't stopped
abbrev pub AnswersCount : Type 0
AnswersCount =
    (header : Header) (events : List Event) → IsHeader header → MayRun events (opening header) → (key : KeyId) → IsStrongKey header key.0
    → (e : Event) (h : Happening) → step (run_of header events).store e ≡ Ok h
    → (p : ℕ) (handle : Handle) (call : CallState) → IsLiveStrong key (run_of header events).store p handle call
    → (message : Message) → IsDelivered (run_of header events).store e p message → is_counted call message ≡ true → Counted h p handle call message
