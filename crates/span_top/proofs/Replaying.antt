-- How replaying a schedule makes the endings of `replay`.
use Rattle.std.proofs.Common.{◌≡◌, ℕ, ◌≤◌, inl, inr, List, length, Option, Result, Ok, Err, refl, subst, arith}
use Rattle.span_base.specs.Files.{Files}
use Rattle.span_base.specs.declared.words.Cause.{Cause}
use Rattle.span_base.specs.declared.words.What.{What}
use Rattle.schedule_replay.specs.Replays.{ReplayEnds}
use Rattle.schedule_replay.specs.declared.fault.ReplayFault.{ReplayFault}
use Rattle.schedule_replay.specs.declared.fault.ReplayFault.TheVariants as fault
use Rattle.span_top.specs.declared.status.Status.{Status}
use Rattle.span_top.specs.declared.status.Status.TheVariants as status
use Rattle.span_top.specs.WholeFile.{Holds, ReadsFile}
use Rattle.span_top.specs.Replayed.{RunsFile, ReplayCommandEnds, BytesReplayed}

scheduled : (files : Option Files) (name bytes : List ℕ) (old new : Option (List ℕ)) (result : Result ℕ ReplayFault) → Holds files name bytes → length bytes ≤ 67108864 → ReplayEnds bytes old new result → RunsFile ReplayEnds files name old new result
scheduled files name bytes old new result held within is = record { bytes = bytes; held = held; within = within; is = is }

pub replays : (bytes : List ℕ) (old new : Option (List ℕ)) (messages : ℕ) → ReplayEnds bytes old new (Ok messages) → BytesReplayed bytes old new status.Done
replays bytes old new messages is files name held within = (messages, scheduled files name bytes old new (Ok messages) held within is)

pub replays_bad : (bytes : List ℕ) (old new : Option (List ℕ)) (line : ℕ) (cause : Cause) → ReplayEnds bytes old new (Err (fault.Bad line cause)) → BytesReplayed bytes old new (status.BadInput 0 line cause)
replays_bad bytes old new line cause is files name held within = (refl, scheduled files name bytes old new (Err (fault.Bad line cause)) held within is)

pub replays_above : (bytes : List ℕ) (old new : Option (List ℕ)) (line : ℕ) (what : What) (number : ℕ) → ReplayEnds bytes old new (Err (fault.Limit line what number)) → BytesReplayed bytes old new (status.TooLarge 0 line what number)
replays_above bytes old new line what number is files name held within = (refl, inr (scheduled files name bytes old new (Err (fault.Limit line what number)) held within is))

pub replays_to : (bytes : List ℕ) (old new : Option (List ℕ)) (line : ℕ) (cause : Cause) → ReplayEnds bytes old new (Err (fault.BadEvent line cause)) → BytesReplayed bytes old new (status.BadEvent line cause)
replays_to bytes old new line cause is files name held within = scheduled files name bytes old new (Err (fault.BadEvent line cause)) held within is

pub replays_unwritten : (bytes : List ℕ) (old new : Option (List ℕ)) → ReplayEnds bytes old new (Err fault.WriteFault) → BytesReplayed bytes old new status.WriteFault
replays_unwritten bytes old new is files name held within = scheduled files name bytes old new (Err fault.WriteFault) held within is

pub replays_in_want : (bytes : List ℕ) (old new : Option (List ℕ)) → ReplayEnds bytes old new (Err fault.NoMemory) → BytesReplayed bytes old new status.NoMemory
replays_in_want bytes old new is files name held within = inr (scheduled files name bytes old new (Err fault.NoMemory) held within is)

-- a schedule that isn't read ends `replay` as its file is refused
pub replays_none : (files : Option Files) (name : List ℕ) (old : Option (List ℕ)) (s : Status) → ReadsFile files name 67108864 (Err s) → ReplayCommandEnds files name old old s
replays_none files name old status.Done refused = absurd refused
replays_none files name old status.NoMemory refused = inl refl
replays_none files name old status.Usage refused = absurd refused
replays_none files name old (status.Absent file) refused = (refused.0, refused.1, refl)
replays_none files name old (status.BadInput file line cause) refused = absurd refused
replays_none files name old (status.NoPolicy set) refused = absurd refused
replays_none files name old (status.Budget set) refused = absurd refused
replays_none files name old (status.Refused line cause) refused = absurd refused
replays_none files name old (status.BadEvent line cause) refused = absurd refused
replays_none files name old status.ReadFault refused = refl
replays_none files name old status.WriteFault refused = absurd refused
replays_none files name old (status.TooLarge file line what number) refused = (refused.0, inl (refused.1, refl))
replays_none files name old status.LinkFault refused = absurd refused
replays_none files name old (status.Strange to frame) refused = absurd refused

pub replays_read : (files : Option Files) (name bytes : List ℕ) (old new : Option (List ℕ)) (s : Status) → ReadsFile files name 67108864 (Ok bytes) → BytesReplayed bytes old new s → ReplayCommandEnds files name old new s
replays_read files name bytes old new s held ends = ends files name held.0 held.1

-- `replay` never answers that its words are of no command, nor that a second file isn't there
pub replays_usage : (files : Option Files) (name : List ℕ) (old new : Option (List ℕ)) (s : Status) → ReplayCommandEnds files name old new s → s ≡ status.Usage → ⊥
replays_usage files name old new s ends same = subst (ReplayCommandEnds files name old new) same ends

pub replays_second : (files : Option Files) (name : List ℕ) (old new : Option (List ℕ)) (s : Status) → ReplayCommandEnds files name old new s → s ≡ status.Absent 1 → ⊥
replays_second files name old new s ends same = absurd (let h : 1 ≡ 0 = (subst (ReplayCommandEnds files name old new) same ends).0 in omega (arith, h))

pub ruleset replayed = (replays, replays_bad, replays_above, replays_to, replays_unwritten, replays_in_want)

pub ruleset ends = (replays_none, replays_read)

pub ruleset never = (replays_usage, replays_second)
