-- The whole text of a schedule's run is a log that says the run's marks.
use Rattle.std.proofs.Common.{◌≡◌, ℕ, List, length, arith}
use Rattle.std.specs.Prelude.{Ok}
use Rattle.schedule_text.specs.declared.setting.Form.TheVariants.{Plain}
use Rattle.schedule_text.specs.Laws.{IsSchedule, SchedulesMayHappen}
use Rattle.schedule_text.specs.Schedules.{Schedule, schedule_of}
use Rattle.schedule_replay.specs.Replays.{replayed}
use Rattle.schedule_replay.proofs.Few.{few_events}
use Rattle.schedule_replay.proofs.MayRun.{may_run}
use Rattle.audit_law.proofs.Run.{no_clause_is_broken}
use Rattle.history_audit.specs.Ranges.{LogsAreReadBack}
use Rattle.log_law.specs.Laws.{AreEvents, StaysFew, ReplayedLogsAreReadBack, ReplayedLogsBreakNothing}
use Rattle.log_law.proofs.Schedules.{schedule_fits}
use Rattle.log_law.proofs.Runs.{runs_fit_logs, runs_stay_few}

are_events : SchedulesMayHappen → (text : List ℕ) (schedule : Schedule) → schedule_of Plain text ≡ Ok schedule → AreEvents schedule.header schedule.events
are_events may text schedule read = record {
  opens = (may Plain text schedule read).header;
  values = schedule_fits Plain text schedule read;
  few = few_events Plain text schedule read;
}

pub replays_are_read_back : SchedulesMayHappen → LogsAreReadBack → ReplayedLogsAreReadBack
replays_are_read_back may back text schedule read =
    let are : AreEvents schedule.header schedule.events = are_events may text schedule read in
    let few : StaysFew schedule.header schedule.events = runs_stay_few schedule.header schedule.events are in
    let marks = few.marks in
    let sent = few.messages in
    let many = are.few in
    back (replayed schedule).marks (length (replayed schedule).store.sent) (runs_fit_logs schedule.header schedule.events are) (omega (arith, marks, many)) (omega (arith, sent))

pub replays_break_nothing : SchedulesMayHappen → ReplayedLogsBreakNothing
replays_break_nothing may text schedule read =
    let is : IsSchedule schedule = may Plain text schedule read in
    no_clause_is_broken schedule.header schedule.events is.header (may_run schedule is)
