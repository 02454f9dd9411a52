-- What `replay` and `replay-kept` do with a file and a sink.
use Rattle.std.specs.Prelude.{◌≡◌, ℕ, ◌≤◌, ◌⊎◌, List, length, Option, Result, Ok, Err}
use Rattle.span_base.specs.Files.{Files}
use Rattle.schedule_replay.specs.Replays.{ReplayEnds}
use Rattle.restart_replay.specs.Replays.{RestartEnds}
use Rattle.schedule_replay.specs.declared.fault.ReplayFault.{ReplayFault}
use Rattle.schedule_replay.specs.declared.fault.ReplayFault.TheVariants as fault
use Rattle.span_top.specs.declared.status.Status.{Status}
use Rattle.span_top.specs.declared.status.Status.TheVariants.{Done, NoMemory, Absent, BadInput, BadEvent, ReadFault, WriteFault, TooLarge}
use Rattle.span_top.specs.WholeFile.{Holds, Lacks, FileIs, IsBytesLimit}
use Rattle.span_top.specs.Planned.{TakesNothing}

-- the named file has at most 67,108,864 bytes, and running them ends so
abbrev pub RunsFile : (List ℕ → Option (List ℕ) → Option (List ℕ) → Result ℕ ReplayFault → Type 0) → Option Files → List ℕ → Option (List ℕ) → Option (List ℕ) → Result ℕ ReplayFault → Type 0
RunsFile Runs files name old new result = FileIs files name 67108864 (λ bytes. Runs bytes old new result)

-- how running the schedule of a named file ends, and what the sink took
abbrev pub ScheduleEnds : (List ℕ → Option (List ℕ) → Option (List ℕ) → Result ℕ ReplayFault → Type 0) → Option Files → List ℕ → Option (List ℕ) → Option (List ℕ) → Status → Type 0
ScheduleEnds Runs files name old new Done = (messages : ℕ) × RunsFile Runs files name old new (Ok messages)
ScheduleEnds Runs files name old new NoMemory = TakesNothing old new ⊎ RunsFile Runs files name old new (Err fault.NoMemory)
ScheduleEnds Runs files name old new (Absent file) = (file ≡ 0) × Lacks files name × TakesNothing old new
ScheduleEnds Runs files name old new (BadInput file line cause) = (file ≡ 0) × RunsFile Runs files name old new (Err (fault.Bad line cause))
ScheduleEnds Runs files name old new (BadEvent line cause) = RunsFile Runs files name old new (Err (fault.BadEvent line cause))
ScheduleEnds Runs files name old new ReadFault = TakesNothing old new
ScheduleEnds Runs files name old new WriteFault = RunsFile Runs files name old new (Err fault.WriteFault)
ScheduleEnds Runs files name old new (TooLarge file line what number) =
    (file ≡ 0)
    × ((IsBytesLimit files name 67108864 line what number × TakesNothing old new)
    ⊎ RunsFile Runs files name old new (Err (fault.Limit line what number)))
ScheduleEnds Runs files name old new other = ⊥

-- how `replay` ends with a named file, and what the sink took. At `Done` that is the text of the whole run of the file's schedule; at `BadEvent`, and where an
-- event would pass a limit, that of its marks before the refused event; and in both the history of each strong key is that of one register
abbrev pub ReplayCommandEnds : Option Files → List ℕ → Option (List ℕ) → Option (List ℕ) → Status → Type 0
ReplayCommandEnds files name old new status = ScheduleEnds ReplayEnds files name old new status

-- how `replay-kept` ends with a named file: likewise, with the restart run of the file's schedule
abbrev pub ReplayKeptEnds : Option Files → List ℕ → Option (List ℕ) → Option (List ℕ) → Status → Type 0
ReplayKeptEnds files name old new status = ScheduleEnds RestartEnds files name old new status

-- how running these bytes ends, where they are within the limit, and what the sink took
abbrev pub BytesRun : (List ℕ → Option (List ℕ) → Option (List ℕ) → Result ℕ ReplayFault → Type 0) → List ℕ → Option (List ℕ) → Option (List ℕ) → Status → Type 0
BytesRun Runs bytes old new status =
    (files : Option Files) (name : List ℕ) → Holds files name bytes → length bytes ≤ 67108864 → ScheduleEnds Runs files name old new status

abbrev pub BytesReplayed : List ℕ → Option (List ℕ) → Option (List ℕ) → Status → Type 0
BytesReplayed bytes old new status = BytesRun ReplayEnds bytes old new status

abbrev pub BytesReplayedKept : List ℕ → Option (List ℕ) → Option (List ℕ) → Status → Type 0
BytesReplayedKept bytes old new status = BytesRun RestartEnds bytes old new status
