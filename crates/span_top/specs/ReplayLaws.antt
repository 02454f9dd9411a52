-- What is true of every replay, of every audit, and of the audit of what a replay wrote.
use Rattle.std.specs.Prelude.{◌≡◌, ℕ, ◌<◌, ◌≤◌, List, ◌++◌, length, Option, Some, None, Ok}
use Rattle.span_base.specs.Files.{Files, file_of}
use Rattle.span_base.specs.declared.words.What.TheVariants.{Bytes}
use Rattle.run_marks.specs.declared.mark.Mark.{Mark}
use Rattle.register_order.specs.Clauses.{BreaksNone}
use Rattle.schedule_text.specs.declared.setting.Form.TheVariants.{Plain}
use Rattle.schedule_text.specs.Schedules.{Schedule, schedule_of}
use Rattle.schedule_replay.specs.Replays.{replayed}
use Rattle.history_audit.specs.Texts.{log_says}
use Rattle.span_top.specs.declared.status.Status.{Status}
use Rattle.span_top.specs.declared.status.Status.TheVariants.{Done, TooLarge}
use Rattle.span_top.specs.Words.{a_replay, an_audit, command_of}
use Rattle.span_node.specs.Traffic.{Traffic}
use Rattle.span_top.specs.Spans.{SpanEnds, IsDoneOrFailed}

-- the words ask for a replay of the named file, which holds this schedule and is within its limit, and no event of the schedule is refused
pub record AsksForWholeRun (words : List (List ℕ)) (files : Files) (schedule : Schedule) : Type 0 where
  pub name : List ℕ
  pub bytes : List ℕ
  pub words_are : command_of words ≡ Some (a_replay name)
  pub held : file_of name files ≡ Some bytes
  pub within : length bytes ≤ 67108864
  pub says : schedule_of Plain bytes ≡ Ok schedule
  pub unrefused : (replayed schedule).refused ≡ None

abbrev pub WholeRunsAreReplayed : Type 0
WholeRunsAreReplayed =
    (words : List (List ℕ)) (files : Files) (schedule : Schedule) (old new : Option (List ℕ)) (from now : Traffic) (status : Status) → AsksForWholeRun words files schedule
    → SpanEnds words (Some files) old new from now status → IsDoneOrFailed status

-- the words ask for an audit of the named file, which holds this log and is within its limit, and no line of the log breaks a clause
pub record AsksForUnbrokenLog (words : List (List ℕ)) (files : Files) (marks : List Mark) : Type 0 where
  pub name : List ℕ
  pub bytes : List ℕ
  pub words_are : command_of words ≡ Some (an_audit name)
  pub held : file_of name files ≡ Some bytes
  pub within : length bytes ≤ 268435456
  pub says : log_says bytes ≡ Ok marks
  pub unbroken : BreaksNone marks

abbrev pub UnbrokenLogsAreAudited : Type 0
UnbrokenLogsAreAudited =
    (words : List (List ℕ)) (files : Files) (marks : List Mark) (old new : Option (List ℕ)) (from now : Traffic) (status : Status) → AsksForUnbrokenLog words files marks
    → SpanEnds words (Some files) old new from now status → IsDoneOrFailed status

-- this text was appended by a replay that was done, to a sink that tells what it took
pub record WasReplayed (text : List ℕ) : Type 0 where
  pub words : List (List ℕ)
  pub name : List ℕ
  pub files : Option Files
  pub before : List ℕ
  pub from : Traffic
  pub now : Traffic
  pub words_are : command_of words ≡ Some (a_replay name)
  pub done : SpanEnds words files (Some before) (Some (before ++ text)) from now Done

-- an audit of this text finds no clause broken: it is done, or the outside kept it from being done, or the text is longer than a log may be
abbrev pub PassesAudit : List ℕ → Status → Type 0
PassesAudit text (TooLarge file line what number) = (line ≡ 0) × (what ≡ Bytes) × (268435456 < length text)
PassesAudit text status = IsDoneOrFailed status

-- whatever a replay wrote passes the audit, where it lies in a file
abbrev pub ReplaysPassTheAudit : Type 0
ReplaysPassTheAudit =
    (text : List ℕ) → WasReplayed text → (words : List (List ℕ)) (log : List ℕ) (files : Files) (old new : Option (List ℕ)) (from now : Traffic) (status : Status)
    → command_of words ≡ Some (an_audit log) → file_of log files ≡ Some text → SpanEnds words (Some files) old new from now status → PassesAudit text status
