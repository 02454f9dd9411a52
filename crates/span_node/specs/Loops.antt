-- What running a script over a link writes and carries, and how it ends.
use Rattle.std.specs.Prelude.{ℕ, ◌≡◌, ◌⊎◌, ◌+◌, ◌≤◌, List, [], ◌∷◌, ◌++◌, length, Contains, Option, Some, None, Result, Ok, Err}
use Rattle.span_base.specs.declared.words.What.TheVariants.{Events}
use Rattle.span_base.specs.Taken.{Appends}
use Rattle.sink_buffer.specs.Said.{IsFrontTaken}
use Rattle.run_marks.specs.declared.mark.Mark.{Mark}
use Rattle.run_marks.specs.Text.{marks_text, messages_line}
use Rattle.world_core.specs.declared.event.Event.{Event}
use Rattle.world_core.specs.declared.event.StepFault.{StepFault}
use Rattle.world_core.specs.Laws.{KeepsRegisters}
use Rattle.world_core.specs.Run.{Run, run_of}
use Rattle.schedule_text.specs.declared.setting.Form.TheVariants.{Script}
use Rattle.schedule_text.specs.declared.fault.ScheduleFault.{ScheduleFault}
use Rattle.schedule_text.specs.declared.fault.ScheduleFault.TheVariants as reading
use Rattle.schedule_text.specs.Headers.{begin_line}
use Rattle.schedule_text.specs.Schedules.{Schedule, schedule_of}
use Rattle.schedule_replay.specs.declared.fault.ReplayFault.{ReplayFault}
use Rattle.schedule_replay.specs.declared.fault.ReplayFault.TheVariants as replay
use Rattle.schedule_replay.specs.Replays.{run_text, refused_at}
use Rattle.frame_link.specs.Frames.{Sent, IsHonest}
use Rattle.span_node.specs.declared.fault.LoopFault.{LoopFault}
use Rattle.span_node.specs.declared.fault.LoopFault.TheVariants.{Bad, Limit, BadEvent, WriteFault, LinkFault, Strange, NoMemory}
use Rattle.span_node.specs.Traffic.{Traffic, Carries, IsFresh}
use Rattle.span_node.specs.Carried.{carried}
use Rattle.span_node.specs.Rounds.{Round, loop_events, answers_of, script_of, IsKnown}
use Rattle.span_node.specs.InOrder.{AreInOrder, IsInStep}

-- the greatest number of events, deliveries among them
abbrev pub event_limit : ℕ
event_limit = 1000000

-- the run of the rounds' events
abbrev pub looped : Schedule → List Round → Run
looped schedule rounds = run_of schedule.header (loop_events schedule.header rounds)

-- the line of the last event of the script in the rounds: events have a line each, behind the line `begin`
abbrev pub last_line : Schedule → List Round → ℕ
last_line schedule rounds = begin_line schedule.header + length rounds

-- The rounds begin the script, and the last of them isn't over: the link gave all their answers but
-- the nothing at the end, and then these. It was given these frames. Over a faithful link the rounds'
-- events are the first of the script's loop in order.
pub record IsIn (schedule : Schedule) (rounds : List Round) (from now : Traffic) (frames : List Sent) (more : List (Option Sent)) : Type 0 where
  pub left : List Event
  pub script : script_of rounds ++ left ≡ schedule.events
  pub given : List (Option Sent)
  pub open_round : given ++ None ∷ [] ≡ answers_of rounds
  pub carries : Carries from now frames (given ++ more)
  pub in_step : IsFresh from → IsInStep schedule.header schedule.events (loop_events schedule.header rounds) given left

-- the loop went to the end of the script: its run has these marks, each message was sent, and each round is over
pub record IsOver (schedule : Schedule) (marks : List Mark) (from now : Traffic) (messages : ℕ) : Type 0 where
  pub rounds : List Round
  pub script : script_of rounds ≡ schedule.events
  pub few : length (loop_events schedule.header rounds) ≤ event_limit
  pub unrefused : (looped schedule rounds).refused ≡ None
  pub marks_are : (looped schedule rounds).marks ≡ marks
  pub messages_are : length (looped schedule rounds).store.sent ≡ messages
  pub carries : Carries from now (carried (looped schedule rounds).store.sent) (answers_of rounds)
  pub in_order : IsFresh from → AreInOrder schedule.header schedule.events (loop_events schedule.header rounds)

-- the run refused the last event of the rounds, and none before it; of that this is told. Each message was sent before, and the event delivers none but one of these
pub record IsRefused (schedule : Schedule) (marks : List Mark) (from now : Traffic) (told : ReplayFault) : Type 0 where
  pub rounds : List Round
  pub done : List Event
  pub last : Event
  pub events_are : loop_events schedule.header rounds ≡ done ++ last ∷ []
  pub few : length (loop_events schedule.header rounds) ≤ event_limit
  pub unrefused : (run_of schedule.header done).refused ≡ None
  pub known : IsKnown last (length (run_of schedule.header done).store.sent)
  pub fault : StepFault
  pub refused : (looped schedule rounds).refused ≡ Some fault
  pub marks_are : (looped schedule rounds).marks ≡ marks
  pub told_is : told ≡ refused_at (last_line schedule rounds) fault
  pub among : IsIn schedule rounds from now (carried (looped schedule rounds).store.sent) []

-- the last event of the rounds would be one too many; each message was sent before, and the event delivers none but one of these
pub record IsFull (schedule : Schedule) (marks : List Mark) (from now : Traffic) (told : ReplayFault) : Type 0 where
  pub rounds : List Round
  pub done : List Event
  pub last : Event
  pub events_are : loop_events schedule.header rounds ≡ done ++ last ∷ []
  pub full : length done ≡ event_limit
  pub unrefused : (run_of schedule.header done).refused ≡ None
  pub known : IsKnown last (length (run_of schedule.header done).store.sent)
  pub marks_are : (run_of schedule.header done).marks ≡ marks
  pub told_is : told ≡ replay.Limit (last_line schedule rounds) Events 1000001
  pub among : IsIn schedule rounds from now (carried (run_of schedule.header done).store.sent) []

-- the loop is in a round, with these marks so far; the link was given the first of the messages
pub record IsUnderWay (schedule : Schedule) (marks : List Mark) (from now : Traffic) : Type 0 where
  pub rounds : List Round
  pub few : length (loop_events schedule.header rounds) ≤ event_limit
  pub unrefused : (looped schedule rounds).refused ≡ None
  pub marks_are : (looped schedule rounds).marks ≡ marks
  pub frames : List Sent
  pub unsent : List Sent
  pub frames_are : frames ++ unsent ≡ carried (looped schedule rounds).store.sent
  pub among : IsIn schedule rounds from now frames []

-- the loop is in a round, each message was sent, and a frame arrived that none of them is; over a faithful link that never is so
pub record IsStrange (schedule : Schedule) (marks : List Mark) (from now : Traffic) (sent : Sent) : Type 0 where
  pub rounds : List Round
  pub few : length (loop_events schedule.header rounds) ≤ event_limit
  pub unrefused : (looped schedule rounds).refused ≡ None
  pub marks_are : (looped schedule rounds).marks ≡ marks
  pub strange : Contains (carried (looped schedule rounds).store.sent) sent → ⊥
  pub honestly : IsHonest now.honest now.sent (Some sent)
  pub unfaithful : IsFresh from → ⊥
  pub among : IsIn schedule rounds from now (carried (looped schedule rounds).store.sent) (Some sent ∷ [])

-- the text is that of a script, of whose loop this holds with marks whose lines were taken, and this behind them; in them the history of each strong key is that of one register
abbrev pub Leaves : List ℕ → Option (List ℕ) → Option (List ℕ) → List ℕ → (Schedule → List Mark → Type 0) → Type 0
Leaves text old new behind Is =
    (schedule : Schedule) × (schedule_of Script text ≡ Ok schedule) × (marks : List Mark) × Appends old new (marks_text marks ++ behind) × KeepsRegisters schedule.header marks × Is schedule marks

-- the text is no script: nothing was taken, and the link wasn't asked
abbrev pub IsUnread : List ℕ → Option (List ℕ) → Option (List ℕ) → Traffic → Traffic → ScheduleFault → Type 0
IsUnread text old new from now fault = (schedule_of Script text ≡ Err fault) × (new ≡ old) × (now ≡ from)

-- a front of the text of a run of the script was taken
pub record IsCut (text : List ℕ) (old new : Option (List ℕ)) : Type 0 where
  pub schedule : Schedule
  pub read : schedule_of Script text ≡ Ok schedule
  pub rounds : List Round
  pub left : List Event
  pub script : script_of rounds ++ left ≡ schedule.events
  pub front : IsFrontTaken old new (run_text (looped schedule rounds))

-- How the loop of a script over a link ends: by what the sink had taken and has, what the link told
-- before and tells, and the answer.
abbrev pub LoopEnds : List ℕ → Option (List ℕ) → Option (List ℕ) → Traffic → Traffic → Result ℕ LoopFault → Type 0
LoopEnds text old new from now (Ok messages) = Leaves text old new (messages_line messages) (λ schedule marks. IsOver schedule marks from now messages)
LoopEnds text old new from now (Err (Bad line cause)) = IsUnread text old new from now (reading.Bad line cause)
LoopEnds text old new from now (Err (Limit line what number)) =
    IsUnread text old new from now (reading.Limit line what number)
    ⊎ Leaves text old new [] (λ schedule marks. IsRefused schedule marks from now (replay.Limit line what number) ⊎ IsFull schedule marks from now (replay.Limit line what number))
LoopEnds text old new from now (Err (BadEvent line cause)) = Leaves text old new [] (λ schedule marks. IsRefused schedule marks from now (replay.BadEvent line cause))
LoopEnds text old new from now (Err WriteFault) = IsCut text old new
LoopEnds text old new from now (Err LinkFault) = Leaves text old new [] (λ schedule marks. IsUnderWay schedule marks from now)
LoopEnds text old new from now (Err (Strange to frame)) = Leaves text old new [] (λ schedule marks. IsStrange schedule marks from now (record { to = to; frame = frame }))
LoopEnds text old new from now (Err NoMemory) = (new ≡ old) ⊎ IsCut text old new

-- the text is that of a script, whose in-order loop was run: its whole text was taken, and the link was given just its messages
pub record RunsInOrder (text : List ℕ) (old new : Option (List ℕ)) (now : Traffic) (messages : ℕ) : Type 0 where
  pub schedule : Schedule
  pub read : schedule_of Script text ≡ Ok schedule
  pub events : List Event
  pub in_order : AreInOrder schedule.header schedule.events events
  pub unrefused : (run_of schedule.header events).refused ≡ None
  pub taken : Appends old new (run_text (run_of schedule.header events))
  pub messages_are : length (run_of schedule.header events).store.sent ≡ messages
  pub sent : now.sent ≡ Some (carried (run_of schedule.header events).store.sent)
