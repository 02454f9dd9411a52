-- When a loop meets a strange frame.
use Rattle.std.specs.Prelude.{ℕ, ◌≡◌, List, [], ◌∷◌, ◌++◌, Contains, Option, Some, None, Result, Err}
use Rattle.world_core.specs.declared.event.Event.{Event}
use Rattle.schedule_text.specs.Schedules.{Schedule}
use Rattle.frame_link.specs.Frames.{Sent}
use Rattle.span_node.specs.declared.fault.LoopFault.{LoopFault}
use Rattle.span_node.specs.declared.fault.LoopFault.TheVariants.{WriteFault, Strange, NoMemory}
use Rattle.span_node.specs.Traffic.{Traffic}
use Rattle.span_node.specs.Carried.{carried}
use Rattle.span_node.specs.Rounds.{Round, answers_of, script_of}
use Rattle.span_node.specs.Loops.{looped}

-- the link told its answers: those of some rounds that begin the script and of which no event is
-- refused, but for the nothing at their end, and then a frame that none of the messages sent is
pub record IsMet (schedule : Schedule) (from now : Traffic) (sent : Sent) : Type 0 where
  pub rounds : List Round
  pub left : List Event
  pub script : script_of rounds ++ left ≡ schedule.events
  pub unrefused : (looped schedule rounds).refused ≡ None
  pub strange : Contains (carried (looped schedule rounds).store.sent) sent → ⊥
  pub before : List (Option Sent)
  pub asked : from.answers ≡ Some before
  pub given : List (Option Sent)
  pub open_round : given ++ None ∷ [] ≡ answers_of rounds
  pub more : List (Option Sent)
  pub answers : now.answers ≡ Some (before ++ (given ++ Some sent ∷ more))

-- this frame is told as strange, or there was no memory, or the sink failed
abbrev pub IsStrangeOrFailed : Sent → Result ℕ LoopFault → Type 0
IsStrangeOrFailed sent (Err (Strange to frame)) = record { to = to; frame = frame } ≡ sent
IsStrangeOrFailed sent (Err NoMemory) = Unit {0}
IsStrangeOrFailed sent (Err WriteFault) = Unit {0}
IsStrangeOrFailed sent _ = ⊥
