-- What checking a whole plan answers, and what it writes.
use Rattle.std.specs.Prelude.{◌≡◌, ℕ, Bool, true, false, ◌+◌, ◌≤◌, ◌⊎◌, List, [], ◌∷◌, ◌++◌, codes, length, Option, Some, None, Result, Ok, Err, ◌<◌}
use Rattle.std.specs.Fmt.{decimal}
use Rattle.span_base.specs.Files.{Files}
use Rattle.span_base.specs.Taken.{Appends}
use Rattle.span_base.specs.declared.words.Cause.TheVariants.{Syntax}
use Rattle.span_base.specs.declared.sink.DeviceFault.{DeviceFault}
use Rattle.span_base.specs.declared.sink.DeviceFault.TheVariants as device
use Rattle.workload.specs.World.{Lists, set_of}
use Rattle.sink_buffer.specs.Said.{IsSaid, IsFrontTaken}
use Rattle.shelf_lines.specs.Lines.{IsFile}
use Rattle.plan_text.specs.Parts.{Part}
use Rattle.plan_text.specs.Plans.{EachPart, HasParts}
use Rattle.plan_check.specs.declared.fault.CheckFault.{CheckFault}
use Rattle.plan_check.specs.declared.fault.CheckFault.TheVariants.{Bad, WriteFault, NoMemory}
use Rattle.plan_check.specs.declared.lines.PlanLines.{PlanLines}
use Rattle.plan_check.specs.Reading.{HasRead, line_count, Ends}
use Rattle.plan_check.specs.Places.{parts_read, Meets}
use Rattle.plan_check.specs.Checks.{RefusesSet, StopsInPart, told_cost, IsShownPart}

-- the line that is written of an accepted part, by the cost that it tells
abbrev pub told_line : Lists → ℕ → Option ℕ → List ℕ
told_line w set (Some cost) = codes "set " ++ (set_of w set).name ++ codes " least " ++ decimal cost ++ codes "\n"
told_line w set None = codes "set " ++ (set_of w set).name ++ codes " none\n"

-- the lines of the parts of the sets from one on
abbrev pub told_from : Lists → ℕ → List Part → List ℕ
told_from w set [] = []
told_from w set (part ∷ parts) = told_line w set (told_cost part.ending) ++ told_from w (set + 1) parts

-- the fault of a check for a fault of the sink
abbrev pub write_fault : DeviceFault → CheckFault
write_fault device.Failed = WriteFault
write_fault device.NoMemory = NoMemory

-- a piece is passed on behind a text; or the sink failed, and took a front of it all
abbrev pub Tells : Option (List ℕ) → Option (List ℕ) → List ℕ → List ℕ → Result (Unit {0}) CheckFault → Type 0
Tells from now kept text (Ok done) = IsSaid from now kept text
Tells from now kept text (Err fault) = ((fault ≡ WriteFault) ⊎ (fault ≡ NoMemory)) × IsFrontTaken from now text

-- a plan begins with its first line
abbrev pub RefusesBegin : List ℕ → CheckFault → Type 0
RefusesBegin line told = (told ≡ Bad 1 Syntax) × ¬ (line ≡ codes "span-plan 1")

abbrev pub ReadsBegin : Option Files → List ℕ → PlanLines → Result (Unit {0}) CheckFault → Type 0
ReadsBegin files name reader (Ok done) = HasRead files name (codes "span-plan 1\n") reader
ReadsBegin files name reader (Err fault) = Meets files name [] RefusesBegin fault

-- behind its last part a plan ends with its last line
pub record IsOtherEnd (number : ℕ) (line : List ℕ) (fault : CheckFault) : Type 0 where
  pub other : ¬ (line ≡ codes "end")
  pub refused : RefusesSet line number fault

abbrev pub ReadsEnd : Option Files → List ℕ → List ℕ → Result (Unit {0}) CheckFault → Type 0
ReadsEnd files name text (Ok done) = IsFile files name (text ++ codes "end\n") × (length (text ++ codes "end\n") ≤ 4294967295)
ReadsEnd files name text (Err fault) =
    Meets files name text (IsOtherEnd (line_count text + 1)) fault ⊎ Ends files name (text ++ codes "end\n") (Err fault)

-- the first sets' parts were read, accepted and so are true, and their lines are on their way to the sink
pub record HasChecked (w : Lists) (files : Option Files) (name : List ℕ) (from now : Option (List ℕ)) (reader : PlanLines) (kept : List ℕ) (parts : List Part) : Type 0 where
  pub accepted : EachPart (IsShownPart w) parts
  pub read : HasRead files name (parts_read w parts) reader
  pub said : IsSaid from now kept (told_from w 0 parts)

-- a check stops behind accepted parts: in the next one, or because the sink failed
pub record StopsAtPart (w : Lists) (files : Option Files) (name : List ℕ) (from now : Option (List ℕ)) (kept : List ℕ) (parts : List Part) (fault : CheckFault) : Type 0 where
  pub few : length parts ≤ length w.sets
  pub accepted : EachPart (IsShownPart w) parts
  pub why : ((length parts < length w.sets) × StopsInPart w files name parts fault × IsSaid from now kept (told_from w 0 parts))
      ⊎ (((fault ≡ WriteFault) ⊎ (fault ≡ NoMemory)) × IsFrontTaken from now (told_from w 0 parts))

abbrev pub ChecksSets : Lists → Option Files → List ℕ → Option (List ℕ) → Option (List ℕ) → PlanLines → List ℕ → Result (Unit {0}) CheckFault → Type 0
ChecksSets w files name from now reader kept (Ok done) =
    (parts : List Part) × (length parts ≡ length w.sets) × HasChecked w files name from now reader kept parts
ChecksSets w files name from now reader kept (Err fault) = (parts : List Part) × StopsAtPart w files name from now kept parts fault

-- why a check stops: at the first line; in a set's part; at the last line; or as the sink or memory has it
pub data StopsBehind (w : Lists) (files : Option Files) (name : List ℕ) (parts : List Part) (fault : CheckFault) : Type 0 where
  at_start : parts ≡ [] → Meets files name [] RefusesBegin fault → StopsBehind w files name parts fault
  in_part : length parts < length w.sets → StopsInPart w files name parts fault → StopsBehind w files name parts fault
  at_end : length parts ≡ length w.sets → ReadsEnd files name (parts_read w parts) (Err fault) → StopsBehind w files name parts fault

-- nothing is said of the plan: the sink failed, or there was no memory
abbrev pub IsWanting : CheckFault → Type 0
IsWanting fault = (fault ≡ WriteFault) ⊎ (fault ≡ NoMemory)

-- what is written of a plan whose first parts are accepted, where its check stops
pub record Stops (w : Lists) (files : Option Files) (name : List ℕ) (parts : List Part) (fault : CheckFault) (Written WrittenSome : Type 0) : Type 0 where
  pub few : length parts ≤ length w.sets
  pub accepted : EachPart (IsShownPart w) parts
  pub why : (StopsBehind w files name parts fault × Written) ⊎ (IsWanting fault × WrittenSome)

-- the lines of all sets, and the last line
abbrev pub told_plan : Lists → List Part → List ℕ
told_plan w parts = told_from w 0 parts ++ codes "plan ok\n"

-- an accepted plan within its limit, each part of which is true of its set, and what is said of it
pub record IsChecked (w : Lists) (files : Option Files) (name : List ℕ) (Written : List Part → Type 0) : Type 0 where
  pub text : List ℕ
  pub parts : List Part
  pub file : IsFile files name text
  pub few : length text ≤ 4294967295
  pub plan : HasParts w text parts
  pub shown : EachPart (IsShownPart w) parts
  pub written : Written parts

-- what is on its way to the sink
abbrev pub ChecksText : Lists → Option Files → List ℕ → Option (List ℕ) → Option (List ℕ) → List ℕ → Result (Unit {0}) CheckFault → Type 0
ChecksText w files name from now kept (Ok done) = IsChecked w files name (λ parts. IsSaid from now kept (told_plan w parts))
ChecksText w files name from now kept (Err fault) =
    (parts : List Part) × Stops w files name parts fault (IsSaid from now kept (told_from w 0 parts)) (IsFrontTaken from now (told_plan w parts))

-- what the sink took: of an accepted plan all lines and the last; else the lines of the sets accepted before,
-- or a front of them where the sink failed or memory lacked
abbrev pub ChecksPlan : Lists → Option Files → List ℕ → Option (List ℕ) → Option (List ℕ) → Result (Unit {0}) CheckFault → Type 0
ChecksPlan w files name from now (Ok done) = IsChecked w files name (λ parts. Appends from now (told_plan w parts))
ChecksPlan w files name from now (Err fault) =
    (parts : List Part) × Stops w files name parts fault (Appends from now (told_from w 0 parts)) (IsFrontTaken from now (told_plan w parts))

-- the sink took all of a text; or it failed, and took a front of it
abbrev pub HandsOver : Option (List ℕ) → Option (List ℕ) → List ℕ → Result (Unit {0}) CheckFault → Type 0
HandsOver from now text (Ok done) = Appends from now text
HandsOver from now text (Err fault) = IsWanting fault × IsFrontTaken from now text

abbrev pub is_wanting : CheckFault → Bool
is_wanting WriteFault = true
is_wanting NoMemory = true
is_wanting _ = false
