-- Which scripts a loop runs to their end, but for the outside.
use Rattle.std.specs.Prelude.{ℕ, ◌≡◌, ◌≤◌, List, [], length, None, Result, Ok, Err}
use Rattle.world_core.specs.declared.event.Event.{Event}
use Rattle.world_core.specs.Run.{run_of}
use Rattle.schedule_text.specs.Schedules.{Schedule}
use Rattle.frame_link.specs.Frames.{Sent}
use Rattle.span_node.specs.declared.fault.LoopFault.{LoopFault}
use Rattle.span_node.specs.declared.fault.LoopFault.TheVariants.{WriteFault, LinkFault, NoMemory}
use Rattle.span_node.specs.Traffic.{Traffic}
use Rattle.span_node.specs.Rounds.{Round, loop_events}
use Rattle.span_node.specs.InOrder.{AreInOrder}
use Rattle.span_node.specs.Loops.{event_limit, looped, IsIn}

-- these are all events of the script's loop in order: they are within the limit, and none of them is refused
pub record IsTakenInOrder (schedule : Schedule) : Type 0 where
  pub events : List Event
  pub in_order : AreInOrder schedule.header schedule.events events
  pub few : length events ≤ event_limit
  pub unrefused : (run_of schedule.header events).refused ≡ None

-- whatever rounds the answers of the link make, their events are within the limit, and none of them is refused
abbrev pub IsTakenAsAnswered : Schedule → Traffic → Traffic → Type 0
IsTakenAsAnswered schedule from now =
    (rounds : List Round) (frames : List Sent) → IsIn schedule rounds from now frames []
    → (length (loop_events schedule.header rounds) ≤ event_limit) × ((looped schedule rounds).refused ≡ None)

-- the loop went to the end of the script, or the outside kept it from that: there was no memory, or the sink or the link failed, which is told only where its count rose
abbrev pub IsOverOrFailed : Result ℕ LoopFault → Type 0
IsOverOrFailed (Ok messages) = Unit {0}
IsOverOrFailed (Err NoMemory) = Unit {0}
IsOverOrFailed (Err WriteFault) = Unit {0}
IsOverOrFailed (Err LinkFault) = Unit {0}
IsOverOrFailed (Err _) = ⊥
