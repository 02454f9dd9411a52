-- Which messages and calls have their stamps, values and epochs within the ranges of a log.
use Rattle.std.specs.Prelude.{ℕ, ◌≤◌, Option, Some, None}
use Rattle.wire_msg.specs.declared.message.Message.{Message}
use Rattle.wire_msg.specs.declared.message.Message.TheVariants as m
use Rattle.call_phase.specs.declared.best.Found.{Found}
use Rattle.replica_core.specs.declared.kept.Kept.{Kept}
use Rattle.strong_proxy.specs.declared.state.Work.{Work}
use Rattle.strong_proxy.specs.declared.state.Work.TheVariants.{ToRead, ToWrite}
use Rattle.strong_proxy.specs.declared.state.CallState.{CallState}
use Rattle.relay_proxy.specs.declared.stage.Stage.{Stage as Doing}
use Rattle.relay_proxy.specs.declared.stage.Stage.TheVariants as doing
use Rattle.relay_proxy.specs.State as relay
use Rattle.migration.specs.declared.stage.Stage.{Stage}
use Rattle.migration.specs.declared.stage.Stage.TheVariants.{Looking, Freezing, Seeding, Switching, Ended}
use Rattle.world_core.specs.declared.live.LiveCall.{LiveCall}
use Rattle.world_core.specs.declared.live.LiveCall.TheVariants.{Strong, Eventual, StrongMove, EventualMove}
use Rattle.world_core.specs.declared.event.Event.{Event}
use Rattle.world_core.specs.declared.event.Event.TheVariants.{Start, Deliver, StopReplica, StopProxy, GiveUp, Publish}
use Rattle.history_audit.specs.Ranges.{FitsStamp, FitsValue, FitsWork}

-- an epoch has 32 bits
abbrev pub FitsEpoch : ℕ → Type 0
FitsEpoch epoch = epoch ≤ 4294967295

-- what a message hands on to a mark: its stamps and values, and the epochs that end in a reply or a view
abbrev pub FitsMessage : Message → Type 0
FitsMessage (m.Read tag key epoch) = Unit {0}
FitsMessage (m.Ask tag key stamp) = FitsStamp stamp
FitsMessage (m.Store tag key stamp value) = FitsStamp stamp × FitsValue value
FitsMessage (m.Repair tag key epoch stamp value) = FitsStamp stamp × FitsValue value
FitsMessage (m.Confirm tag key stamp) = FitsStamp stamp
FitsMessage (m.Freeze tag key epoch) = FitsEpoch epoch
FitsMessage (m.Seed tag key epoch stamp value) = FitsStamp stamp × FitsValue value
FitsMessage (m.Push tag key stamp onward value) = FitsStamp stamp × FitsValue value
FitsMessage (m.Lookup tag key) = Unit {0}
FitsMessage (m.Switch tag key closing opening) = FitsEpoch opening
FitsMessage (m.Have tag replica version mark value) = FitsStamp version × FitsStamp mark × FitsValue value
FitsMessage (m.Yes tag replica) = Unit {0}
FitsMessage (m.Held tag replica stamp) = FitsStamp stamp
FitsMessage (m.Gone tag replica epoch) = FitsEpoch epoch
FitsMessage (m.Here tag key epoch policy latest_epoch latest_policy) = FitsEpoch epoch × FitsEpoch latest_epoch
FitsMessage (m.Switched tag key done epoch) = FitsEpoch epoch

-- what a replica keeps of a key
pub record FitsKept (kept : Kept) : Type 0 where
  pub version : FitsStamp kept.version
  pub value : FitsValue kept.value
  pub mark : FitsStamp kept.mark
  pub fence : FitsStamp kept.fence
  pub frozen : FitsEpoch kept.frozen

-- a version that was found
abbrev pub FitsFound : Option Found → Type 0
FitsFound None = Unit {0}
FitsFound (Some found) = FitsStamp found.stamp × FitsValue found.value

abbrev pub FitsStrongWork : Work → Type 0
FitsStrongWork ToRead = Unit {0}
FitsStrongWork (ToWrite value) = FitsValue value

pub record FitsStrong (call : CallState) : Type 0 where
  pub work : FitsStrongWork call.work
  pub best : FitsFound call.best
  pub ticket : FitsStamp call.progress.leg.ticket
  pub held : FitsStamp call.progress.top_held
  pub gone : FitsEpoch call.progress.top_gone

abbrev pub FitsDoing : Doing → Type 0
FitsDoing doing.Getting = Unit {0}
FitsDoing (doing.Putting stamp) = FitsStamp stamp
FitsDoing doing.Ended = Unit {0}

pub record FitsEventual (call : relay.State) : Type 0 where
  pub doing : FitsDoing call.stage
  pub gone : FitsEpoch call.gone

abbrev pub FitsStage : Stage → Type 0
FitsStage Looking = Unit {0}
FitsStage (Freezing old new best) = FitsEpoch new.number × FitsFound best
FitsStage (Seeding old new frozen seeded top_gone) = FitsEpoch new.number × FitsEpoch top_gone
FitsStage (Switching old new frozen seeded) = FitsEpoch new.number
FitsStage Ended = Unit {0}

-- a live call
abbrev pub FitsLive : LiveCall → Type 0
FitsLive (Strong call) = FitsStrong call
FitsLive (Eventual call) = FitsEventual call
FitsLive (StrongMove call) = FitsStage call.stage
FitsLive (EventualMove call) = FitsStage call.stage

-- the value that an event's call writes is one
abbrev pub FitsEvent : Event → Type 0
FitsEvent (Start proxy key work) = FitsWork work
FitsEvent (Deliver message) = Unit {0}
FitsEvent (StopReplica number) = Unit {0}
FitsEvent (StopProxy number) = Unit {0}
FitsEvent (GiveUp proxy seq) = Unit {0}
FitsEvent (Publish table) = Unit {0}
