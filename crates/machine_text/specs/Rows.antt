-- What is left of a text whose records are taken one by one: words of inner contracts alone.
use Rattle.std.specs.Prelude.{◌≡◌, ℕ, ◌+◌, ◌<◌, false, List, [], ◌∷◌, length, Option, Some, None, Result, Err, IsSome, ⊤}
use Rattle.std.specs.Borrow.{Bor}
use Rattle.csv.specs.Machine.{ends_at_end}
use Rattle.csv.specs.Reading.{Ready, default_config, records_from, source_of, owned_rows_reader, owned_rows_left}
use Rattle.csv.specs.Records.{Row, fields_of}
use Rattle.csv.specs.declared.iter.ByteRecordsIntoIter.{ByteRecordsIntoIter}
use Rattle.csv.specs.declared.parser.State.{State}
use Rattle.csv.specs.declared.reader.Reader.{Reader}
use Rattle.csv.specs.declared.reader.Trim.TheVariants as trim
use Rattle.machine_text.specs.Spelled.{Record}
use Rattle.machine_text.specs.declared.fault.Fault.TheVariants.{Bad, Limit}
use Rattle.machine_text.specs.declared.fault.MachineFault.{MachineFault}
use Rattle.machine_text.specs.declared.fault.MachineFault.TheVariants as refused
use Rattle.machine_text.specs.ReadMachines.{LineFault}

-- a reader over bytes, those that it has left, and its records
abbrev pub ByteRows : Type 0
ByteRows = ByteRecordsIntoIter (Bor (List ℕ))

abbrev pub bytes_left : Reader (Bor (List ℕ)) → Option (List ℕ)
bytes_left reader = source_of (λ s. Some s.now) reader

abbrev pub records_after : State → Option (List ℕ) → List Record
records_after s None = []
records_after s (Some bytes) = records_from default_config (length bytes + 1) s bytes

abbrev pub records_left : ByteRows → List Record
records_left rows = records_after (owned_rows_reader rows).state (bytes_left (owned_rows_reader rows))

-- the reader stands between two records, and nothing failed so far
pub record IsReading (rows : ByteRows) : Type 0 where
  pub plain : (owned_rows_reader rows).trim ≡ trim.None
  pub ready : Ready (owned_rows_reader rows)
  pub turns : 0 < owned_rows_left rows
  pub config : (owned_rows_reader rows).config ≡ default_config
  pub known : IsSome (bytes_left (owned_rows_reader rows))
  pub between : ends_at_end (owned_rows_reader rows).state ≡ false

-- the row is the first of the records that were left, and the others are left now
abbrev pub IsNext : Option Row → List Record → List Record → Type 0
IsNext None old new = old ≡ []
IsNext (Some row) old new = old ≡ fields_of row ∷ new

-- no record was left, and that is at fault at this line; or memory lacks
abbrev pub IsLacking : ℕ → List Record → MachineFault → Type 0
IsLacking line records (refused.Bad at) = (records ≡ []) × (at ≡ line)
IsLacking line records (refused.Limit at what number) = ⊥
IsLacking line records (refused.NoMemory e) = ⊤

-- the fault is the one that is due, or want of memory
abbrev pub IsDue : {X : Type 0} → Result X LineFault → MachineFault → Type 0
IsDue due (refused.Bad line) = due ≡ Err (line, Bad)
IsDue due (refused.Limit line what number) = due ≡ Err (line, Limit what number)
IsDue due (refused.NoMemory e) = ⊤
