-- What is claimed of the log of every run.
use Rattle.std.specs.Prelude.{◌≡◌, ℕ, ◌*◌, ◌≤◌, List, ◌++◌, length, Ok, Contains}
use Rattle.run_marks.specs.declared.mark.Mark.{Mark}
use Rattle.run_marks.specs.Text.{marks_text, messages_line}
use Rattle.register_order.specs.Clauses.{BreaksNone}
use Rattle.world_core.specs.declared.event.Header.{Header}
use Rattle.world_core.specs.declared.event.Event.{Event}
use Rattle.world_core.specs.Run.{run_of, IsHeader}
use Rattle.schedule_text.specs.declared.setting.Form.TheVariants.{Plain}
use Rattle.schedule_text.specs.Schedules.{Schedule, schedule_of}
use Rattle.schedule_replay.specs.Replays.{replayed}
use Rattle.history_audit.specs.Ranges.{FitsMark}
use Rattle.history_audit.specs.Texts.{log_says}
use Rattle.log_law.specs.Fits.{FitsEvent}

-- a header that opens a store, and at most 1,000,000 events whose values are values
pub record AreEvents (header : Header) (events : List Event) : Type 0 where
  pub opens : IsHeader header
  pub values : (event : Event) → Contains events event → FitsEvent event
  pub few : length events ≤ 1000000

-- each mark of a run is within the ranges of a log
abbrev pub RunsFitLogs : Type 0
RunsFitLogs = (header : Header) (events : List Event) → AreEvents header events → (mark : Mark) → Contains (run_of header events).marks mark → FitsMark mark

-- a run has two marks an event at most, and sends at most 4,000,000 messages
pub record StaysFew (header : Header) (events : List Event) : Type 0 where
  pub marks : length (run_of header events).marks ≤ 2 * length events
  pub messages : length (run_of header events).store.sent ≤ 4000000

abbrev pub RunsStayFew : Type 0
RunsStayFew = (header : Header) (events : List Event) → AreEvents header events → StaysFew header events

-- what is written of a schedule's run says the run's marks
abbrev pub ReplayedLogsAreReadBack : Type 0
ReplayedLogsAreReadBack =
    (text : List ℕ) (schedule : Schedule) → schedule_of Plain text ≡ Ok schedule
    → log_says (marks_text (replayed schedule).marks ++ messages_line (length (replayed schedule).store.sent)) ≡ Ok (replayed schedule).marks

-- and breaks no clause of the audit
abbrev pub ReplayedLogsBreakNothing : Type 0
ReplayedLogsBreakNothing = (text : List ℕ) (schedule : Schedule) → schedule_of Plain text ≡ Ok schedule → BreaksNone (replayed schedule).marks
