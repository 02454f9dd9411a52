-- What `audit` does with a file and a sink.
use Rattle.std.specs.Prelude.{◌≡◌, ℕ, ◌≤◌, ◌⊎◌, ◌++◌, codes, List, length, Option, Err}
use Rattle.std.specs.Fmt.{decimal}
use Rattle.span_base.specs.Files.{Files}
use Rattle.span_base.specs.Taken.{Appends, AppendsFront}
use Rattle.span_base.specs.declared.words.Cause.{Cause}
use Rattle.span_base.specs.declared.words.Cause.TheVariants as cause
use Rattle.span_base.specs.declared.words.What.{What}
use Rattle.span_base.specs.declared.words.What.TheVariants.{Lines}
use Rattle.history_audit.specs.declared.fault.Clause.{Clause}
use Rattle.history_audit.specs.declared.fault.Clause.TheVariants as clause
use Rattle.history_audit.specs.declared.summary.Summary.{Summary}
use Rattle.history_audit.specs.Texts.{Bad, Limit, log_says}
use Rattle.history_audit.specs.Audited.{IsUnbroken, IsBroken}
use Rattle.span_top.specs.declared.status.Status.{Status}
use Rattle.span_top.specs.declared.status.Status.TheVariants.{Done, NoMemory, Absent, BadInput, Refused, ReadFault, WriteFault, TooLarge}
use Rattle.span_top.specs.WholeFile.{Holds, Lacks, FileIs, IsBytesLimit}
use Rattle.span_top.specs.Planned.{TakesNothing}

-- the lines that tell of a log without a break
abbrev pub summary_text : Summary → List ℕ
summary_text s =
    codes "calls " ++ decimal s.calls ++ codes "\ncounted " ++ decimal s.counted ++ codes "\nkeys " ++ decimal s.keys ++ codes "\nregister ok\n"

-- the cause that a clause is told as
abbrev pub cause_of : Clause → Cause
cause_of clause.Call = cause.Call
cause_of clause.Kind = cause.Kind
cause_of clause.Stamp = cause.Stamp
cause_of clause.Value = cause.Value
cause_of clause.Dead = cause.Dead
cause_of clause.Order = cause.Order

-- the named file has at most 268,435,456 bytes, and this holds of them
abbrev pub LogIs : Option Files → List ℕ → (List ℕ → Type 0) → Type 0
LogIs files name Is = FileIs files name 268435456 Is

-- the bytes are a log that breaks no clause, and this was taken of the text on it
abbrev pub IsTold : (List ℕ → Type 0) → List ℕ → Type 0
IsTold Took bytes = (summary : Summary) × IsUnbroken bytes summary × Took (summary_text summary)

-- the bytes are a log that is refused at this line for this cause
abbrev pub IsRefused : ℕ → Cause → List ℕ → Type 0
IsRefused line told bytes = (broken : Clause) × IsBroken bytes line broken × (told ≡ cause_of broken)

-- a line of the log is one too many
pub record IsLinesLimit (files : Option Files) (name : List ℕ) (line : ℕ) (what : What) (number : ℕ) : Type 0 where
  pub what_is : what ≡ Lines
  pub number_is : number ≡ 4000001
  pub log : LogIs files name (λ bytes. log_says bytes ≡ Err (Limit line))

-- how `audit` ends with a named file, and what the sink took. At `Done` the reads and writes of each key of the log are those of one register
abbrev pub AuditEnds : Option Files → List ℕ → Option (List ℕ) → Option (List ℕ) → Status → Type 0
AuditEnds files name old new Done = LogIs files name (IsTold (Appends old new))
AuditEnds files name old new NoMemory = TakesNothing old new ⊎ LogIs files name (IsTold (AppendsFront old new))
AuditEnds files name old new (Absent file) = (file ≡ 0) × Lacks files name × TakesNothing old new
AuditEnds files name old new (BadInput file line told) =
    (file ≡ 0) × (told ≡ cause.Syntax) × LogIs files name (λ bytes. log_says bytes ≡ Err (Bad line)) × TakesNothing old new
AuditEnds files name old new (Refused line told) = LogIs files name (IsRefused line told) × TakesNothing old new
AuditEnds files name old new ReadFault = TakesNothing old new
AuditEnds files name old new WriteFault = LogIs files name (IsTold (AppendsFront old new))
AuditEnds files name old new (TooLarge file line what number) =
    (file ≡ 0) × (IsBytesLimit files name 268435456 line what number ⊎ IsLinesLimit files name line what number) × TakesNothing old new
AuditEnds files name old new other = ⊥

-- how the audit of these bytes ends, where they are within the limit, and what the sink took
abbrev pub BytesAudited : List ℕ → Option (List ℕ) → Option (List ℕ) → Status → Type 0
BytesAudited bytes old new status =
    (files : Option Files) (name : List ℕ) → Holds files name bytes → length bytes ≤ 268435456 → AuditEnds files name old new status
