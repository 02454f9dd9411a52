-- The text of records in CSV, and how it is written.
use Rattle.std.specs.Prelude.{◌≡◌, ℕ, true, false, List, [], ◌∷◌, ◌++◌, take}
use Rattle.std.specs.List.{flat_map}
use Rattle.std.specs.Global.{Vec}
use Rattle.csv.specs.Reading.{strip_bom}
use Rattle.csv.specs.Writing.{row_text, default_writer, with_flexible, writer_setup, fields_written, has_written, writer_under, writer_pending}
use Rattle.csv.specs.declared.writer.Writer.{Writer}
use Rattle.world_text.specs.declared.kinds.Version.{Version}
use Rattle.world_text.specs.declared.kinds.Version.TheVariants as version
use Rattle.world_text.specs.Records.{Record}

-- the text of these records
unfoldable pub text_of : List Record → List ℕ
text_of records = flat_map (row_text default_writer) records

-- a record of two fields or more, of which the first doesn't begin with a byte order mark
abbrev pub IsReadBack : Record → Type 0
IsReadBack [] = ⊥
IsReadBack (field ∷ []) = ⊥
IsReadBack (field ∷ next ∷ fields) = strip_bom field ≡ field

-- a writer of records into memory
abbrev pub MemoryWriter : Type 0
MemoryWriter = Writer (Vec ℕ)

-- what was written
abbrev pub written : MemoryWriter → List ℕ
written w = (writer_under w).items ++ writer_pending w

-- the writer is between two records, which may differ in length
pub record IsBetween (w : MemoryWriter) : Type 0 where
  pub setup : writer_setup w ≡ with_flexible default_writer true
  pub no_field : fields_written w ≡ 0
  pub nothing_shown : has_written w ≡ false

-- the writer has written these records
pub record Adds (old new : MemoryWriter) (records : List Record) : Type 0 where
  pub between : IsBetween new
  pub text : written new ≡ written old ++ text_of records

-- the nine fields of a set as a version shows them: in version 1 the last is left out
abbrev pub in_version : Version → Record → Record
in_version version.One fields = take 8 fields
in_version version.Two fields = fields
