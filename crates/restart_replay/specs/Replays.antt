-- What replaying a restart run writes, and how it ends.
use Rattle.std.specs.Prelude.{ℕ, ◌≡◌, ◌⊎◌, ◌+◌, List, ◌++◌, length, Option, Some, None, Result, Ok, Err}
use Rattle.span_base.specs.Taken.{Appends}
use Rattle.sink_buffer.specs.Said.{IsFrontTaken}
use Rattle.run_marks.specs.Text.{marks_text, messages_line}
use Rattle.world_core.specs.declared.event.StepFault.{StepFault}
use Rattle.world_core.specs.Run.{Run}
use Rattle.world_core.specs.Laws.{KeepsRegisters}
use Rattle.schedule_text.specs.declared.fault.ScheduleFault.{ScheduleFault}
use Rattle.schedule_text.specs.declared.fault.ScheduleFault.TheVariants as reading
use Rattle.schedule_text.specs.Headers.{begin_line}
use Rattle.schedule_text.specs.Kept.{KeptSchedule, kept_schedule_of}
use Rattle.schedule_replay.specs.declared.fault.ReplayFault.{ReplayFault}
use Rattle.schedule_replay.specs.declared.fault.ReplayFault.TheVariants.{Bad, Limit, BadEvent, WriteFault, NoMemory}
use Rattle.schedule_replay.specs.Replays.{refused_at, run_text}
use Rattle.restart_law.specs.Restart.{restart_run_of}

-- the restart run of a schedule
abbrev pub restarted : KeptSchedule → Run
restarted schedule = restart_run_of schedule.header schedule.events

-- the line of the event before which so many come: events have a line each, behind the line `begin`
abbrev pub event_line : KeptSchedule → ℕ → ℕ
event_line schedule before = begin_line schedule.header + 1 + before

-- the restart run went to its end: its whole text was taken, so many messages were sent, and in that text the history of each strong key is that of one register
pub record RunsWhole (schedule : KeptSchedule) (old new : Option (List ℕ)) (messages : ℕ) : Type 0 where
  pub unrefused : (restarted schedule).refused ≡ None
  pub taken : Appends old new (marks_text (restarted schedule).marks ++ messages_line (length (restarted schedule).store.sent))
  pub messages_are : messages ≡ length (restarted schedule).store.sent
  pub registers : KeepsRegisters schedule.header (restarted schedule).marks

-- the restart run refused an event, of which this is told: just the marks of those before it were taken, and in them the history of each strong key is that of one register
pub record StopsAt (schedule : KeptSchedule) (old new : Option (List ℕ)) (told : ReplayFault) : Type 0 where
  pub fault : StepFault
  pub refused : (restarted schedule).refused ≡ Some fault
  pub told_is : told ≡ refused_at (event_line schedule (restarted schedule).taken) fault
  pub taken : Appends old new (marks_text (restarted schedule).marks)
  pub registers : KeepsRegisters schedule.header (restarted schedule).marks

-- the text is that of a restart run of which this holds
abbrev pub IsScheduled : List ℕ → (KeptSchedule → Type 0) → Type 0
IsScheduled text Is = (schedule : KeptSchedule) × (kept_schedule_of text ≡ Ok schedule) × Is schedule

-- the text is that of no restart run, and nothing was taken
abbrev pub IsUnread : List ℕ → Option (List ℕ) → Option (List ℕ) → ScheduleFault → Type 0
IsUnread text old new fault = (kept_schedule_of text ≡ Err fault) × (new ≡ old)

-- a front of the text of the restart run was taken
abbrev pub IsCut : List ℕ → Option (List ℕ) → Option (List ℕ) → Type 0
IsCut text old new = IsScheduled text (λ schedule. IsFrontTaken old new (run_text (restarted schedule)))

-- how replaying a text ends
abbrev pub RestartEnds : List ℕ → Option (List ℕ) → Option (List ℕ) → Result ℕ ReplayFault → Type 0
RestartEnds text old new (Ok messages) = IsScheduled text (λ schedule. RunsWhole schedule old new messages)
RestartEnds text old new (Err (Bad line cause)) = IsUnread text old new (reading.Bad line cause)
RestartEnds text old new (Err (Limit line what number)) =
    IsUnread text old new (reading.Limit line what number) ⊎ IsScheduled text (λ schedule. StopsAt schedule old new (Limit line what number))
RestartEnds text old new (Err (BadEvent line cause)) = IsScheduled text (λ schedule. StopsAt schedule old new (BadEvent line cause))
RestartEnds text old new (Err WriteFault) = IsCut text old new
RestartEnds text old new (Err NoMemory) = (new ≡ old) ⊎ IsCut text old new
