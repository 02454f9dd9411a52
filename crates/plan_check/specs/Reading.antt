-- The lines of a plan file, one after another.
use Rattle.std.specs.Prelude.{◌≡◌, ℕ, ◌+◌, ◌==◌, ◌⊎◌, List, [], ◌∷◌, ◌++◌, Result, Ok, Err, ⊤}
use Rattle.std.specs.List.{count_by}
use Rattle.span_base.specs.Files.{Files}
use Rattle.span_base.specs.declared.words.Cause.{Cause}
use Rattle.span_base.specs.declared.words.Cause.TheVariants.{Syntax, End}
use Rattle.span_base.specs.declared.words.What.{What}
use Rattle.span_base.specs.declared.words.What.TheVariants.{Bytes, Line}
use Rattle.std.specs.Prelude.{Option}
use Rattle.shelf_lines.specs.Lines.{IsLine, fed, Begins, IsFile, IsAbsent, HasGiven, IsLongLine, IsPastLimit}
use Rattle.plan_check.specs.declared.fault.CheckFault.{CheckFault}
use Rattle.plan_check.specs.declared.fault.CheckFault.TheVariants.{Absent, ReadFault, TooLarge, Bad, Refused, WriteFault, NoMemory}
use Rattle.plan_check.specs.declared.lines.PlanLines.{PlanLines}

-- how many lines a text has that ends with a line feed
abbrev pub line_count : List ℕ → ℕ
line_count text = count_by (λ byte. byte == 10) text

-- the reader has given this text of the named file
pub record HasRead (files : Option Files) (name text : List ℕ) (reader : PlanLines) : Type 0 where
  pub given : HasGiven files name text reader.lines
  pub number : reader.number ≡ line_count text

-- the next line is longer than 1,048,576 bytes, or goes on past 4,294,967,295 bytes of the file
abbrev pub IsTooLarge : Option Files → List ℕ → List ℕ → ℕ → What → ℕ → Type 0
IsTooLarge files name text line Line number =
    IsLongLine files name text 1048576 4294967295 × (line ≡ line_count text + 1) × (number ≡ 1048577)
IsTooLarge files name text line Bytes number =
    IsPastLimit files name text 1048576 4294967295 × (line ≡ 0) × (number ≡ 4294967296)
IsTooLarge files name text line other number = ⊥

-- the file ends with the text, or with bytes behind it that have no line feed
abbrev pub IsCutOff : Option Files → List ℕ → List ℕ → Cause → Type 0
IsCutOff files name text End = IsFile files name text
IsCutOff files name text Syntax = (rest : List ℕ) × IsLine rest × IsFile files name (text ++ rest)
IsCutOff files name text other = ⊥

-- why no line comes behind the text
abbrev pub Lacks : Option Files → List ℕ → List ℕ → CheckFault → Type 0
Lacks files name text Absent = IsAbsent files name
Lacks files name text ReadFault = ⊤
Lacks files name text (TooLarge line what number) = IsTooLarge files name text line what number
Lacks files name text (Bad line cause) = (line ≡ line_count text + 1) × IsCutOff files name text cause
Lacks files name text (Refused line cause) = ⊥
Lacks files name text WriteFault = ⊥
Lacks files name text NoMemory = ⊤

-- a line comes behind the text
pub record IsLineRead (files : Option Files) (name text : List ℕ) (reader : PlanLines) : Type 0 where
  pub line : IsLine reader.lines.line
  pub read : HasRead files name (text ++ fed reader.lines.line) reader

abbrev pub ReadsNext : Option Files → List ℕ → List ℕ → PlanLines → Result (Unit {0}) CheckFault → Type 0
ReadsNext files name text reader (Ok done) = IsLineRead files name text reader
ReadsNext files name text reader (Err fault) = Lacks files name text fault

-- what a fault of the shelf or of memory may be
abbrev pub IsOutside : Option Files → List ℕ → CheckFault → Type 0
IsOutside files name Absent = IsAbsent files name
IsOutside files name ReadFault = ⊤
IsOutside files name NoMemory = ⊤
IsOutside files name other = ⊥

-- the file ends with the text, or goes on behind it
abbrev pub Ends : Option Files → List ℕ → List ℕ → Result (Unit {0}) CheckFault → Type 0
Ends files name text (Ok done) = IsFile files name text
Ends files name text (Err fault) =
    IsOutside files name fault
    ⊎ ((fault ≡ Bad (line_count text + 1) End) × ((byte : ℕ) × Begins files name (text ++ byte ∷ [])))
