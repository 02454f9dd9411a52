-- How a loop under way stands for its script. Only inner contracts cite it.
use Rattle.std.specs.Prelude.{ℕ, ◌≡◌, ◌⊎◌, ◌≤◌, Bool, true, false, List, [], ◌∷◌, ◌++◌, length, map, take, Option, Some, None, Result, Ok, Err}
use Rattle.std.specs.List.{All}
use Rattle.run_marks.specs.declared.mark.Mark.{Mark}
use Rattle.run_marks.specs.Text.{marks_text}
use Rattle.sink_buffer.specs.Said.{IsSaid}
use Rattle.world_core.specs.declared.event.Header.{Header}
use Rattle.world_core.specs.declared.event.Event.{Event}
use Rattle.world_core.specs.declared.event.Event.TheVariants.{Deliver}
use Rattle.world_core.specs.Ends.{Seen}
use Rattle.world_core.specs.Run.{run_of}
use Rattle.schedule_text.specs.declared.setting.Form.TheVariants.{Script}
use Rattle.schedule_text.specs.declared.fault.ScheduleFault.TheVariants as reading
use Rattle.schedule_text.specs.Laws.{HasModes, MayAlways, IsSchedule}
use Rattle.schedule_text.specs.Schedules.{Schedule, schedule_of}
use Rattle.schedule_replay.specs.declared.fault.ReplayFault.TheVariants as replay
use Rattle.span_node.specs.declared.fault.LoopFault.{LoopFault}
use Rattle.span_node.specs.declared.fault.LoopFault.TheVariants.{Bad, Limit, BadEvent, WriteFault, LinkFault, Strange, NoMemory}
use Rattle.span_node.specs.declared.running.Running.{Running}
use Rattle.span_node.specs.Traffic.{Traffic, Carries, IsFresh}
use Rattle.span_node.specs.Carried.{carried}
use Rattle.span_node.specs.Rounds.{Round, loop_events, answers_of, script_of, DeliversNothing, IsKnown, so_far}
use Rattle.span_node.specs.InOrder.{IsInStep, IsDone}
use Rattle.span_node.specs.Loops.{event_limit, looped, last_line, IsOver, IsRefused, IsFull, IsUnderWay, IsStrange}
use Rattle.span_node.specs.Mail.{IsMail}

-- the script's events that are left may happen and deliver nothing, and the mail is in order
pub record IsReady (running : Running) : Type 0 where
  pub header : Header
  pub few : running.cloud.events ≤ event_limit
  pub may : All (MayAlways header) running.script.events
  pub undelivered : All DeliversNothing running.script.events
  pub modes : HasModes header running.cloud.store.directory
  pub mail : IsMail running.mail running.cloud.store.sent

-- these are the rounds' events, and the run of them has come so far
pub record IsRun (schedule : Schedule) (events : List Event) (marks : List Mark) (cloud : Seen) : Type 0 where
  pub run_is : run_of schedule.header events ≡ so_far cloud marks
  pub count : length events ≡ cloud.events

-- the rounds begin the script, of which this is left
pub record IsFront (schedule : Schedule) (rounds : List Round) (running : Running) : Type 0 where
  pub script : script_of rounds ++ running.script.events ≡ schedule.events
  pub line : running.script.line ≡ last_line schedule rounds

-- a round goes on, with these marks so far; the link was given what the mail tells
pub record IsBegun (schedule : Schedule) (marks : List Mark) (from now : Traffic) (running : Running) : Type 0 where
  pub before : List Round
  pub last : Round
  pub run : IsRun schedule (loop_events schedule.header (before ++ last ∷ [])) marks running.cloud
  pub front : IsFront schedule (before ++ last ∷ []) running
  pub carries : Carries from now (take running.mail.sent (carried running.cloud.store.sent)) (answers_of before ++ map Some last.arrived)
  pub in_step : IsFresh from → IsInStep schedule.header schedule.events (loop_events schedule.header (before ++ last ∷ [])) (answers_of before ++ map Some last.arrived) running.script.events

-- each round is over, and the link was given all messages
pub record IsResting (schedule : Schedule) (marks : List Mark) (from now : Traffic) (running : Running) : Type 0 where
  pub rounds : List Round
  pub run : IsRun schedule (loop_events schedule.header rounds) marks running.cloud
  pub front : IsFront schedule rounds running
  pub all_sent : running.mail.sent ≡ length running.cloud.store.sent
  pub carries : Carries from now (carried running.cloud.store.sent) (answers_of rounds)
  pub in_step : IsFresh from → IsDone schedule.header schedule.events (loop_events schedule.header rounds) (answers_of rounds) running.script.events

-- this event is the next one of the last round; the link was given all messages, and the event delivers none but one of these
pub record IsNext (schedule : Schedule) (marks : List Mark) (from now : Traffic) (running : Running) (event : Event) : Type 0 where
  pub before : List Round
  pub last : Round
  pub done : List Event
  pub events_are : loop_events schedule.header (before ++ last ∷ []) ≡ done ++ event ∷ []
  pub known : IsKnown event (length running.cloud.store.sent)
  pub run : IsRun schedule done marks running.cloud
  pub front : IsFront schedule (before ++ last ∷ []) running
  pub all_sent : running.mail.sent ≡ length running.cloud.store.sent
  pub carries : Carries from now (carried running.cloud.store.sent) (answers_of before ++ map Some last.arrived)
  pub in_step : IsFresh from → IsInStep schedule.header schedule.events (loop_events schedule.header (before ++ last ∷ [])) (answers_of before ++ map Some last.arrived) running.script.events

abbrev pub StandsBy : Bool → Schedule → List Mark → Traffic → Traffic → Running → Type 0
StandsBy true schedule marks from now running = IsBegun schedule marks from now running
StandsBy false schedule marks from now running = IsResting schedule marks from now running

-- where the script's loop is, with these marks so far
abbrev pub Stands : Schedule → List Mark → Traffic → Traffic → Running → Type 0
Stands schedule marks from now running = StandsBy running.begun schedule marks from now running

-- some rounds of the script's loop leave these marks first
pub record BeginsWith (schedule : Schedule) (marks : List Mark) : Type 0 where
  pub rounds : List Round
  pub left : List Event
  pub script : script_of rounds ++ left ≡ schedule.events
  pub more : List Mark
  pub marks_are : (looped schedule rounds).marks ≡ marks ++ more

-- why the loop goes no further, with these marks so far
abbrev pub Stops : Schedule → List Mark → Traffic → Traffic → LoopFault → Type 0
Stops schedule marks from now (Limit line what number) =
    IsRefused schedule marks from now (replay.Limit line what number) ⊎ IsFull schedule marks from now (replay.Limit line what number)
Stops schedule marks from now (BadEvent line cause) = IsRefused schedule marks from now (replay.BadEvent line cause)
Stops schedule marks from now LinkFault = IsUnderWay schedule marks from now
Stops schedule marks from now (Strange to frame) = IsStrange schedule marks from now (record { to = to; frame = frame })
Stops schedule marks from now NoMemory = BeginsWith schedule marks
Stops schedule marks from now (Bad line cause) = ⊥
Stops schedule marks from now WriteFault = ⊥

-- what becomes of the next event
abbrev pub Takes : Schedule → List Mark → Traffic → Traffic → Running → Result (List Mark) LoopFault → Type 0
Takes schedule marks from now running (Ok more) = Stands schedule (marks ++ more) from now running
Takes schedule marks from now running (Err fault) = Stops schedule marks from now fault

-- what arrives: the next event, or nothing
abbrev pub Arrives : Schedule → List Mark → Traffic → Traffic → Running → Result (Option ℕ) LoopFault → Type 0
Arrives schedule marks from now running (Ok None) = IsResting schedule marks from now running
Arrives schedule marks from now running (Ok (Some number)) = IsNext schedule marks from now running (Deliver number)
Arrives schedule marks from now running (Err fault) = Stops schedule marks from now fault

-- how the loop goes on with its next event
abbrev pub GoesOn : Schedule → List Mark → Traffic → Traffic → Running → Result (Option (List Mark)) LoopFault → Type 0
GoesOn schedule marks from now running (Ok (Some more)) = Stands schedule (marks ++ more) from now running
GoesOn schedule marks from now running (Ok None) = IsOver schedule marks from now (length running.cloud.store.sent)
GoesOn schedule marks from now running (Err fault) = Stops schedule marks from now fault

-- how the loop of a text opens
abbrev pub Opens : List ℕ → Traffic → Result Running LoopFault → Type 0
Opens text link (Ok running) = (schedule : Schedule) × (schedule_of Script text ≡ Ok schedule) × IsSchedule schedule × Stands schedule [] link link running
Opens text link (Err (Bad line cause)) = schedule_of Script text ≡ Err (reading.Bad line cause)
Opens text link (Err (Limit line what number)) = schedule_of Script text ≡ Err (reading.Limit line what number)
Opens text link (Err NoMemory) = Unit {0}
Opens text link (Err _) = ⊥

-- the marks so far of the script's loop are said
pub record IsToldSoFar (text : List ℕ) (old new : Option (List ℕ)) (from now : Traffic) (running : Running) (kept : List ℕ) : Type 0 where
  pub schedule : Schedule
  pub read : schedule_of Script text ≡ Ok schedule
  pub may : IsSchedule schedule
  pub marks : List Mark
  pub stands : Stands schedule marks from now running
  pub said : IsSaid old new kept (marks_text marks)
