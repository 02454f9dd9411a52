-- How a restart run under way stands for that of a schedule. Only inner contracts cite it.
use Rattle.std.specs.Prelude.{ℕ, ◌≡◌, ◌+◌, ◌≤◌, List, [], ◌++◌, length, Option, Some, None, Result, Ok, Err}
use Rattle.std.specs.List.{All}
use Rattle.run_marks.specs.declared.mark.Mark.{Mark}
use Rattle.run_marks.specs.Text.{marks_text}
use Rattle.sink_buffer.specs.Said.{IsSaid}
use Rattle.world_core.specs.declared.event.Header.{Header}
use Rattle.world_core.specs.declared.event.StepFault.{StepFault}
use Rattle.world_core.specs.Laws.{KeepsRegisters}
use Rattle.schedule_text.specs.declared.fault.ScheduleFault.TheVariants as reading
use Rattle.schedule_text.specs.Headers.{begin_line}
use Rattle.schedule_text.specs.Laws.{HasModes}
use Rattle.schedule_text.specs.Kept.{KeptSchedule, kept_schedule_of}
use Rattle.schedule_text.specs.KeptLaws.{KeptMayAlways}
use Rattle.schedule_replay.specs.declared.fault.ReplayFault.{ReplayFault}
use Rattle.schedule_replay.specs.declared.fault.ReplayFault.TheVariants.{Bad, Limit, BadEvent, WriteFault, NoMemory}
use Rattle.schedule_replay.specs.Replays.{refused_at}
use Rattle.schedule_replay.specs.Standing.{behind}
use Rattle.restart_law.specs.Restart.{restart_run}
use Rattle.restart_replay.specs.declared.running.Running.{Running}
use Rattle.restart_replay.specs.Replays.{restarted, event_line, IsScheduled}
use Rattle.restart_replay.specs.Steady.{IsSteady}

-- the events that are left may happen, and there are few
pub record IsReady (running : Running) : Type 0 where
  pub steady : IsSteady running.store
  pub header : Header
  pub few : running.store.taken + length running.events.events ≤ 1000000
  pub may : All (KeptMayAlways header) running.events.events
  pub modes : HasModes header running.store.cloud.store.directory

-- the schedule's run has left these marks, and goes on with the events that are left; in the whole run the history of each strong key is that of one register
pub record Stands (schedule : KeptSchedule) (running : Running) (marks : List Mark) : Type 0 where
  pub goes_on : restarted schedule ≡ behind marks running.store.taken (restart_run running.events.events running.store.cloud.store)
  pub line : running.events.line ≡ begin_line schedule.header + running.store.taken
  pub registers : KeepsRegisters schedule.header (restarted schedule).marks

-- the schedule's run is at its end
pub record IsOver (schedule : KeptSchedule) (running : Running) (marks : List Mark) : Type 0 where
  pub unrefused : (restarted schedule).refused ≡ None
  pub marks_are : (restarted schedule).marks ≡ marks
  pub store_is : (restarted schedule).store ≡ running.store.cloud.store

-- the schedule's run refuses the next event, of which this is told
pub record IsRefused (schedule : KeptSchedule) (marks : List Mark) (told : ReplayFault) : Type 0 where
  pub fault : StepFault
  pub refused : (restarted schedule).refused ≡ Some fault
  pub marks_are : (restarted schedule).marks ≡ marks
  pub told_is : told ≡ refused_at (event_line schedule (restarted schedule).taken) fault

-- the schedule's run begins with these marks
abbrev pub BeginsWith : KeptSchedule → List Mark → Type 0
BeginsWith schedule marks = (more : List Mark) × ((restarted schedule).marks ≡ marks ++ more)

-- how a run opens with the schedule of a text
abbrev pub Opens : List ℕ → Result Running ReplayFault → Type 0
Opens text (Ok running) = IsScheduled text (λ schedule. Stands schedule running [])
Opens text (Err (Bad line cause)) = kept_schedule_of text ≡ Err (reading.Bad line cause)
Opens text (Err (Limit line what number)) = kept_schedule_of text ≡ Err (reading.Limit line what number)
Opens text (Err (BadEvent line cause)) = ⊥
Opens text (Err WriteFault) = ⊥
Opens text (Err NoMemory) = Unit {0}

-- how a run with these marks goes on with its next event
abbrev pub Goes : KeptSchedule → List Mark → Running → Result (Option (List Mark)) ReplayFault → Type 0
Goes schedule marks running (Ok (Some more)) = Stands schedule running (marks ++ more)
Goes schedule marks running (Ok None) = IsOver schedule running marks
Goes schedule marks running (Err (Bad line cause)) = ⊥
Goes schedule marks running (Err (Limit line what number)) = IsRefused schedule marks (Limit line what number)
Goes schedule marks running (Err (BadEvent line cause)) = IsRefused schedule marks (BadEvent line cause)
Goes schedule marks running (Err WriteFault) = ⊥
Goes schedule marks running (Err NoMemory) = BeginsWith schedule marks

-- the marks so far of the schedule's run are said
pub record IsToldSoFar (text : List ℕ) (from now : Option (List ℕ)) (running : Running) (kept : List ℕ) : Type 0 where
  pub schedule : KeptSchedule
  pub read : kept_schedule_of text ≡ Ok schedule
  pub marks : List Mark
  pub stands : Stands schedule running marks
  pub said : IsSaid from now kept (marks_text marks)
