-- How replaying a restart run makes the endings of `replay-kept`.
use Rattle.std.proofs.Common.{◌≡◌, ℕ, ◌≤◌, ◌⊎◌, inl, inr, List, length, Option, Result, Ok, Err, refl, subst, arith}
use Rattle.span_base.specs.Files.{Files}
use Rattle.span_base.specs.declared.words.Cause.{Cause}
use Rattle.span_base.specs.declared.words.What.{What}
use Rattle.restart_replay.specs.Replays.{RestartEnds}
use Rattle.schedule_replay.specs.declared.fault.ReplayFault.{ReplayFault}
use Rattle.schedule_replay.specs.declared.fault.ReplayFault.TheVariants as fault
use Rattle.span_top.specs.declared.status.Status.{Status}
use Rattle.span_top.specs.declared.status.Status.TheVariants as status
use Rattle.span_top.specs.WholeFile.{Holds, ReadsFile}
use Rattle.span_top.specs.Replayed.{RunsFile, ReplayKeptEnds, BytesReplayedKept}

scheduled : (files : Option Files) (name bytes : List ℕ) (old new : Option (List ℕ)) (result : Result ℕ ReplayFault) → Holds files name bytes → length bytes ≤ 67108864 → RestartEnds bytes old new result → RunsFile RestartEnds files name old new result
scheduled files name bytes old new result held within is = record { bytes = bytes; held = held; within = within; is = is }

pub restarts : (bytes : List ℕ) (old new : Option (List ℕ)) (messages : ℕ) → RestartEnds bytes old new (Ok messages) → BytesReplayedKept bytes old new status.Done
restarts bytes old new messages is files name held within = (messages, scheduled files name bytes old new (Ok messages) held within is)

pub restarts_bad : (bytes : List ℕ) (old new : Option (List ℕ)) (line : ℕ) (cause : Cause) → RestartEnds bytes old new (Err (fault.Bad line cause)) → BytesReplayedKept bytes old new (status.BadInput 0 line cause)
restarts_bad bytes old new line cause is files name held within = (refl, scheduled files name bytes old new (Err (fault.Bad line cause)) held within is)

pub restarts_above : (bytes : List ℕ) (old new : Option (List ℕ)) (line : ℕ) (what : What) (number : ℕ) → RestartEnds bytes old new (Err (fault.Limit line what number)) → BytesReplayedKept bytes old new (status.TooLarge 0 line what number)
restarts_above bytes old new line what number is files name held within = (refl, inr (scheduled files name bytes old new (Err (fault.Limit line what number)) held within is))

pub restarts_to : (bytes : List ℕ) (old new : Option (List ℕ)) (line : ℕ) (cause : Cause) → RestartEnds bytes old new (Err (fault.BadEvent line cause)) → BytesReplayedKept bytes old new (status.BadEvent line cause)
restarts_to bytes old new line cause is files name held within = scheduled files name bytes old new (Err (fault.BadEvent line cause)) held within is

pub restarts_unwritten : (bytes : List ℕ) (old new : Option (List ℕ)) → RestartEnds bytes old new (Err fault.WriteFault) → BytesReplayedKept bytes old new status.WriteFault
restarts_unwritten bytes old new is files name held within = scheduled files name bytes old new (Err fault.WriteFault) held within is

pub restarts_in_want : (bytes : List ℕ) (old new : Option (List ℕ)) → RestartEnds bytes old new (Err fault.NoMemory) → BytesReplayedKept bytes old new status.NoMemory
restarts_in_want bytes old new is files name held within = inr (scheduled files name bytes old new (Err fault.NoMemory) held within is)

-- a schedule that isn't read ends `replay-kept` as its file is refused
pub restarts_none : (files : Option Files) (name : List ℕ) (old : Option (List ℕ)) (s : Status) → ReadsFile files name 67108864 (Err s) → ReplayKeptEnds files name old old s
restarts_none files name old status.Done refused = absurd refused
restarts_none files name old status.NoMemory refused = inl refl
restarts_none files name old status.Usage refused = absurd refused
restarts_none files name old (status.Absent file) refused = (refused.0, refused.1, refl)
restarts_none files name old (status.BadInput file line cause) refused = absurd refused
restarts_none files name old (status.NoPolicy set) refused = absurd refused
restarts_none files name old (status.Budget set) refused = absurd refused
restarts_none files name old (status.Refused line cause) refused = absurd refused
restarts_none files name old (status.BadEvent line cause) refused = absurd refused
restarts_none files name old status.ReadFault refused = refl
restarts_none files name old status.WriteFault refused = absurd refused
restarts_none files name old (status.TooLarge file line what number) refused = (refused.0, inl (refused.1, refl))
restarts_none files name old status.LinkFault refused = absurd refused
restarts_none files name old (status.Strange to frame) refused = absurd refused

pub restarts_read : (files : Option Files) (name bytes : List ℕ) (old new : Option (List ℕ)) (s : Status) → ReadsFile files name 67108864 (Ok bytes) → BytesReplayedKept bytes old new s → ReplayKeptEnds files name old new s
restarts_read files name bytes old new s held ends = ends files name held.0 held.1

-- `replay-kept` never answers that its words are of no command, nor that a second file isn't there
pub restarts_usage : (files : Option Files) (name : List ℕ) (old new : Option (List ℕ)) (s : Status) → ReplayKeptEnds files name old new s → s ≡ status.Usage → ⊥
restarts_usage files name old new s ends same = subst (ReplayKeptEnds files name old new) same ends

pub restarts_second : (files : Option Files) (name : List ℕ) (old new : Option (List ℕ)) (s : Status) → ReplayKeptEnds files name old new s → s ≡ status.Absent 1 → ⊥
restarts_second files name old new s ends same = absurd (let h : 1 ≡ 0 = (subst (ReplayKeptEnds files name old new) same ends).0 in omega (arith, h))

pub ruleset restarted = (restarts, restarts_bad, restarts_above, restarts_to, restarts_unwritten, restarts_in_want)

pub ruleset ends = (restarts_none, restarts_read)

pub ruleset never = (restarts_usage, restarts_second)
