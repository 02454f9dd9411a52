-- What replaying a schedule writes, and how it ends.
use Rattle.std.specs.Prelude.{ℕ, ◌≡◌, ◌⊎◌, ◌+◌, List, [], ◌++◌, length, Option, Some, None, Result, Ok, Err}
use Rattle.span_base.specs.declared.sink.DeviceFault.{DeviceFault}
use Rattle.span_base.specs.declared.sink.DeviceFault.TheVariants as device
use Rattle.span_base.specs.declared.words.Cause.TheVariants as cause
use Rattle.span_base.specs.Taken.{Appends}
use Rattle.sink_buffer.specs.Said.{IsFrontTaken}
use Rattle.run_marks.specs.Text.{marks_text, messages_line}
use Rattle.world_core.specs.declared.event.StepFault.{StepFault}
use Rattle.world_core.specs.declared.event.StepFault.TheVariants as step
use Rattle.world_core.specs.Run.{Run, run_of}
use Rattle.world_core.specs.Laws.{KeepsRegisters}
use Rattle.schedule_text.specs.declared.setting.Form.TheVariants.{Plain}
use Rattle.schedule_text.specs.declared.fault.ScheduleFault.{ScheduleFault}
use Rattle.schedule_text.specs.declared.fault.ScheduleFault.TheVariants as reading
use Rattle.schedule_text.specs.Headers.{begin_line}
use Rattle.schedule_text.specs.Schedules.{Schedule, schedule_of}
use Rattle.schedule_replay.specs.declared.fault.ReplayFault.{ReplayFault}
use Rattle.schedule_replay.specs.declared.fault.ReplayFault.TheVariants.{Bad, Limit, BadEvent, WriteFault, NoMemory}

-- what is told of a text that isn't read
abbrev pub unread : ScheduleFault → ReplayFault
unread (reading.Bad line cause) = Bad line cause
unread (reading.Limit line what number) = Limit line what number
unread (reading.NoMemory error) = NoMemory

-- what is told of a sink that doesn't take a text
abbrev pub unwritten : DeviceFault → ReplayFault
unwritten device.Failed = WriteFault
unwritten device.NoMemory = NoMemory

-- what is told of an event of this line that isn't taken; a replica in memory is never at fault
abbrev pub refused_at : ℕ → StepFault → ReplayFault
refused_at line step.NoActor = BadEvent line cause.Actor
refused_at line step.NoKey = BadEvent line cause.Key
refused_at line step.WrongMode = BadEvent line cause.Mode
refused_at line (step.NoMessage sent) = BadEvent line cause.Message
refused_at line step.NoCall = BadEvent line cause.Call
refused_at line (step.Limit what number) = Limit line what number
refused_at line (step.Taker fault) = NoMemory
refused_at line (step.NoMemory error) = NoMemory

-- the run of a schedule
abbrev pub replayed : Schedule → Run
replayed schedule = run_of schedule.header schedule.events

-- the line of the event before which so many come: events have a line each, behind the line `begin`
abbrev pub event_line : Schedule → ℕ → ℕ
event_line schedule before = begin_line schedule.header + 1 + before

-- this comes behind the marks, unless an event is refused
abbrev pub unless_refused : Option StepFault → List ℕ → List ℕ
unless_refused None line = line
unless_refused (Some fault) line = []

-- the text of a run: the lines of its marks; where no event is refused, how many messages were sent
abbrev pub run_text : Run → List ℕ
run_text run = marks_text run.marks ++ unless_refused run.refused (messages_line (length run.store.sent))

-- the schedule's run went to its end: its whole text was taken, so many messages were sent, and in that text the history of each strong key is that of one register
pub record RunsWhole (schedule : Schedule) (old new : Option (List ℕ)) (messages : ℕ) : Type 0 where
  pub unrefused : (replayed schedule).refused ≡ None
  pub taken : Appends old new (marks_text (replayed schedule).marks ++ messages_line (length (replayed schedule).store.sent))
  pub messages_are : messages ≡ length (replayed schedule).store.sent
  pub registers : KeepsRegisters schedule.header (replayed schedule).marks

-- the schedule's run refused an event, of which this is told: just the marks of those before it were taken, and in them the history of each strong key is that of one register
pub record StopsAt (schedule : Schedule) (old new : Option (List ℕ)) (told : ReplayFault) : Type 0 where
  pub fault : StepFault
  pub refused : (replayed schedule).refused ≡ Some fault
  pub told_is : told ≡ refused_at (event_line schedule (replayed schedule).taken) fault
  pub taken : Appends old new (marks_text (replayed schedule).marks)
  pub registers : KeepsRegisters schedule.header (replayed schedule).marks

-- the text is that of a schedule of which this holds
abbrev pub IsScheduled : List ℕ → (Schedule → Type 0) → Type 0
IsScheduled text Is = (schedule : Schedule) × (schedule_of Plain text ≡ Ok schedule) × Is schedule

-- the text is no schedule, and nothing was taken
abbrev pub IsUnread : List ℕ → Option (List ℕ) → Option (List ℕ) → ScheduleFault → Type 0
IsUnread text old new fault = (schedule_of Plain text ≡ Err fault) × (new ≡ old)

-- a front of the text of the schedule's run was taken
abbrev pub IsCut : List ℕ → Option (List ℕ) → Option (List ℕ) → Type 0
IsCut text old new = IsScheduled text (λ schedule. IsFrontTaken old new (run_text (replayed schedule)))

-- how replaying a text ends
abbrev pub ReplayEnds : List ℕ → Option (List ℕ) → Option (List ℕ) → Result ℕ ReplayFault → Type 0
ReplayEnds text old new (Ok messages) = IsScheduled text (λ schedule. RunsWhole schedule old new messages)
ReplayEnds text old new (Err (Bad line cause)) = IsUnread text old new (reading.Bad line cause)
ReplayEnds text old new (Err (Limit line what number)) =
    IsUnread text old new (reading.Limit line what number) ⊎ IsScheduled text (λ schedule. StopsAt schedule old new (Limit line what number))
ReplayEnds text old new (Err (BadEvent line cause)) = IsScheduled text (λ schedule. StopsAt schedule old new (BadEvent line cause))
ReplayEnds text old new (Err WriteFault) = IsCut text old new
ReplayEnds text old new (Err NoMemory) = (new ≡ old) ⊎ IsCut text old new
