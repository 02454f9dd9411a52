-- What is true of every restart run that is read.
use Rattle.std.specs.Prelude.{◌≡◌, ◌≤◌, ℕ, List, map, Ok}
use Rattle.std.specs.List.{All}
use Rattle.world_core.specs.declared.event.Header.{Header}
use Rattle.world_core.specs.Run.{IsHeader}
use Rattle.schedule_text.specs.declared.kept_event.KeptEvent.{KeptEvent}
use Rattle.schedule_text.specs.declared.kept_event.KeptEvent.TheVariants.{Event, Crash}
use Rattle.schedule_text.specs.declared.setting.Form.TheVariants.{Plain}
use Rattle.schedule_text.specs.Laws.{MayAlways}
use Rattle.schedule_text.specs.Schedules.{Schedule, schedule_of}
use Rattle.schedule_text.specs.Kept.{KeptSchedule, kept_schedule_of}

-- an event of the store may happen in every state of the header's modes; a crash is at one of the four calls
abbrev pub KeptMayAlways : Header → KeptEvent → Type 0
KeptMayAlways header (Event event) = MayAlways header event
KeptMayAlways header (Crash message call is_new) = (1 ≤ call) × (call ≤ 4)

-- the header opens a store, in which the events may happen at any time
pub record IsKeptSchedule (schedule : KeptSchedule) : Type 0 where
  pub opens : IsHeader schedule.header
  pub may : All (KeptMayAlways schedule.header) schedule.events

-- each text of a restart run that is read is that of such a schedule
abbrev pub KeptSchedulesMayHappen : Type 0
KeptSchedulesMayHappen = (text : List ℕ) (schedule : KeptSchedule) → kept_schedule_of text ≡ Ok schedule → IsKeptSchedule schedule

-- each schedule's text is that of a restart run without crashes, of the same events
abbrev pub SchedulesAreRestartRuns : Type 0
SchedulesAreRestartRuns =
    (text : List ℕ) (schedule : Schedule) → schedule_of Plain text ≡ Ok schedule → kept_schedule_of text ≡ Ok (record { header = schedule.header; events = map Event schedule.events })
