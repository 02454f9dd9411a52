-- What a read or a write that was begun, and has not ended, waits for.
use Rattle.std.specs.Prelude.{◌≡◌, ℕ, ◌+◌, ◌<◌, ◌≤◌, true, false, List, length, Some, Contains}
use Rattle.span_base.specs.declared.ids.Call.{Call}
use Rattle.span_base.specs.declared.ids.KeyId.{KeyId}
use Rattle.span_base.specs.declared.policy.Quorum.{Quorum}
use Rattle.span_base.specs.DcSet.{centres_of}
use Rattle.span_base.specs.PolicyParts.{member_of, faults_of}
use Rattle.wire_msg.specs.declared.outputs.Reply.{Reply}
use Rattle.call_phase.specs.declared.phase.Phase.{Phase}
use Rattle.slot_pool.specs.declared.handles.Handle.{Handle}
use Rattle.strong_proxy.specs.declared.progress.Stage.{Stage}
use Rattle.strong_proxy.specs.declared.progress.Stage.TheVariants.{First, Second, Looking, Ended}
use Rattle.strong_proxy.specs.declared.progress.Progress.{Progress}
use Rattle.strong_proxy.specs.declared.state.CallState.{CallState}
use Rattle.run_marks.specs.declared.mark.Work.{Work as Asked}
use Rattle.run_marks.specs.declared.mark.Mark.{Mark}
use Rattle.run_marks.specs.History.{is_register_work, EndsWith}
use Rattle.run_marks.specs.declared.mark.Mark.TheVariants as k
use Rattle.world_core.specs.declared.event.Event.{Event}
use Rattle.world_core.specs.declared.event.Header.{Header}
use Rattle.world_core.specs.declared.live.LiveCall.{LiveCall}
use Rattle.world_core.specs.State.{Store, opening, policy_of}
use Rattle.world_core.specs.Calls.{tag_of_call}
use Rattle.world_core.specs.Run.{IsHeader, MayRun, run_of}
use Rattle.world_core.specs.Laws.{IsStrongKey}
use Rattle.world_core.specs.declared.live.LiveCall.TheVariants as live_call
use Rattle.register_law.specs.Tags.{IsLiveAt}
use Rattle.register_law.specs.Live.{IsLiveStrong, IsAskedOf, IsWork}

-- fewer than all but f of the phase's replicas did as they were asked, and at most f refused
pub record IsUndecided (f : ℕ) (phase : Phase) : Type 0 where
  pub few_good : length (centres_of phase.good) + f < length (centres_of phase.asked)
  pub few_bad : length (centres_of phase.bad) ≤ f

-- what a call waits for: answers of its phase, or the Here of its Lookup, at which it leaves the stage
abbrev pub Waits : Stage → Progress → Type 0
Waits First p = IsUndecided p.leg.f p.phase
Waits Second p = IsUndecided p.leg.f p.phase
Waits Looking p = Unit {0}
Waits Ended p = ⊥

-- f, and whom the phase asks, are those of the call's member in the policy of its leg's epoch
pub record AsksQuorum (key : KeyId) (s : Store) (call : CallState) : Type 0 where
  pub member : Quorum
  pub is_member : member_of (policy_of s key call.progress.leg.epoch) call.progress.at.0 ≡ Some member
  pub tolerance : call.progress.leg.f ≡ faults_of (policy_of s key call.progress.leg.epoch)
  pub asked : IsAskedOf call.work call.progress.stage member call.progress.phase.asked

-- the call is a read or a write of the key that lives, and waits
pub record IsWaiting (key : KeyId) (s : Store) (call : Call) (asked : Asked) : Type 0 where
  pub handle : Handle
  pub state : CallState
  pub live : IsLiveStrong key s call.proxy handle state
  pub of : state.progress.phase.tag.call ≡ call
  pub work : IsWork state.work asked
  pub quorum : AsksQuorum key s state
  pub waits : Waits state.progress.stage state.progress

-- the call was begun, and has no end: it was neither refused at once nor answered nor given up
pub record IsUnanswered (marks : List Mark) (key : KeyId) (call : Call) (asked : Asked) : Type 0 where
  pub begun : Contains marks (k.Begin call key asked)
  pub no_end : (reply : Reply) → EndsWith marks call reply → ⊥

-- after every run, the reads and the writes of each strong key that are unanswered are those that wait,
-- also those of a stopped proxy
abbrev pub UnansweredWait : Type 0
UnansweredWait =
    (header : Header) (events : List Event) → IsHeader header → MayRun events (opening header)
    → (key : KeyId) → IsStrongKey header key.0 → (call : Call) (asked : Asked) → is_register_work asked ≡ true
    → (IsUnanswered (run_of header events).marks key call asked → IsWaiting key (run_of header events).store call asked)
    × (IsWaiting key (run_of header events).store call asked → IsUnanswered (run_of header events).marks key call asked)

-- the live call is one that was begun with this work
abbrev pub IsKindOf : LiveCall → Asked → Type 0
IsKindOf (live_call.Strong call) asked = IsWork call.work asked
IsKindOf _ asked = is_register_work asked ≡ false

-- the call lives
pub record IsLiveCall (s : Store) (call : Call) (asked : Asked) : Type 0 where
  pub handle : Handle
  pub live : LiveCall
  pub is : IsLiveAt s call.proxy handle live
  pub of : (tag_of_call live).call ≡ call
  pub kind : IsKindOf live asked

-- whatever was begun and has no end lives
abbrev pub OpenCallsLive : Store → List Mark → Type 0
OpenCallsLive s marks = (call : Call) (at : KeyId) (asked : Asked) → Contains marks (k.Begin call at asked) → ((reply : Reply) → EndsWith marks call reply → ⊥) → IsLiveCall s call asked

-- each live read or write of the key waits
abbrev pub LiveCallsWait : KeyId → Store → Type 0
LiveCallsWait key s = (p : ℕ) (handle : Handle) (call : CallState) → IsLiveStrong key s p handle call → Waits call.progress.stage call.progress
