-- What the lines of a log tell of each call that lives: what it does, that it hasn't ended, and its latest ticket.
use Rattle.std.specs.Prelude.{◌≡◌, ◌⊎◌, ℕ, List, [], Contains}
use Rattle.span_base.specs.declared.ids.Call.{Call}
use Rattle.span_base.specs.declared.ids.KeyId.{KeyId}
use Rattle.wire_msg.specs.declared.outputs.Reply.{Reply}
use Rattle.slot_pool.specs.declared.handles.Handle.{Handle}
use Rattle.strong_proxy.specs.declared.progress.Leg.{Leg}
use Rattle.strong_proxy.specs.declared.state.Work.{Work as StrongWork}
use Rattle.strong_proxy.specs.declared.state.Work.TheVariants.{ToRead, ToWrite}
use Rattle.relay_proxy.specs.declared.stage.Stage.{Stage as Doing}
use Rattle.relay_proxy.specs.declared.stage.Stage.TheVariants as doing
use Rattle.run_marks.specs.declared.mark.Work.{Work}
use Rattle.run_marks.specs.declared.mark.Mark.{Mark}
use Rattle.run_marks.specs.History.{EndsWith}
use Rattle.run_marks.specs.declared.mark.Work.TheVariants as w
use Rattle.run_marks.specs.declared.mark.Mark.TheVariants as k
use Rattle.register_order.specs.Form.{IsLatestTicket, KeepsForm, last_seq}
use Rattle.register_order.specs.Clauses.{EachKeeps}
use Rattle.world_core.specs.declared.live.LiveCall.{LiveCall}
use Rattle.world_core.specs.declared.live.LiveCall.TheVariants.{Strong, Eventual, StrongMove, EventualMove}
use Rattle.world_core.specs.State.{Store, proxy_at}
use Rattle.world_core.specs.Calls.{tag_of_call}
use Rattle.register_law.specs.Tags.{TagsTellApart, IsLiveAt}
use Rattle.register_law.specs.Live.{IsWork}

abbrev pub EventualDoes : Doing → Work → Type 0
EventualDoes doing.Getting work = (work ≡ w.Get) ⊎ (work ≡ w.GetAny)
EventualDoes (doing.Putting stamp) work = (value : List ℕ) × (work ≡ w.Put value)
EventualDoes doing.Ended work = Unit {0}

-- the call does this work
abbrev pub Does : LiveCall → Work → Type 0
Does (Strong call) work = IsWork call.work work
Does (Eventual call) work = EventualDoes call.stage work
Does (StrongMove call) work = work ≡ w.Move
Does (EventualMove call) work = work ≡ w.Move

-- a write's ticket is the latest, and of its leg's epoch
abbrev pub StrongLatest : StrongWork → List Mark → Call → Leg → Type 0
StrongLatest ToRead marks call leg = Unit {0}
StrongLatest (ToWrite value) marks call leg = IsLatestTicket marks call leg.ticket × (leg.ticket.epoch ≡ leg.epoch)

abbrev pub EventualLatest : Doing → List Mark → Call → Type 0
EventualLatest doing.Getting marks call = Unit {0}
EventualLatest (doing.Putting stamp) marks call = IsLatestTicket marks call stamp
EventualLatest doing.Ended marks call = Unit {0}

-- the ticket that the call has is the latest that it drew
abbrev pub HasLatest : List Mark → LiveCall → Type 0
HasLatest marks (Strong call) = StrongLatest call.work marks call.progress.phase.tag.call call.progress.leg
HasLatest marks (Eventual call) = EventualLatest call.stage marks call.phase.tag.call
HasLatest marks (StrongMove call) = Unit {0}
HasLatest marks (EventualMove call) = Unit {0}

pub record IsTold (marks : List Mark) (live : LiveCall) : Type 0 where
  pub at : KeyId
  pub work : Work
  pub begun : Contains marks (k.Begin (tag_of_call live).call at work)
  pub does : Does live work
  pub unended : (reply : Reply) → EndsWith marks (tag_of_call live).call reply → ⊥
  pub latest : HasLatest marks live

-- what holds of the log, and of the store that left it, after each event
pub record LogIsFormed (s : Store) (marks : List Mark) : Type 0 where
  pub tags : TagsTellApart s
  pub lines : EachKeeps KeepsForm [] marks
  pub numbers : (p : ℕ) → last_seq p marks ≡ (proxy_at s p).begun
  pub live : (p : ℕ) (handle : Handle) (live : LiveCall) → IsLiveAt s p handle live → IsTold marks live
