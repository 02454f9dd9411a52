-- The lines of a file, one after another. A shelf that doesn't tell its files may hold any.
use Rattle.std.specs.Prelude.{◌≡◌, ◌≢◌, ℕ, ◌+◌, ◌<◌, ◌≤◌, List, [], ◌∷◌, ◌++◌, length, All, Option, Some, None, Result, Ok, Err, ⊤}
use Rattle.span_base.specs.Files.{Files, file_of}
use Rattle.shelf_lines.specs.declared.limits.LinesFault.{LinesFault}
use Rattle.shelf_lines.specs.declared.limits.LinesFault.TheVariants.{Absent, ReadFault, LineTooLong, FileTooLarge, NoMemory}
use Rattle.shelf_lines.specs.declared.reader.Found.{Found}
use Rattle.shelf_lines.specs.declared.reader.Found.TheVariants.{Line, Cut, End}

-- the bytes of a line: none of them is a line feed
abbrev pub IsLine : List ℕ → Type 0
IsLine text = All (λ byte. byte ≢ 10) text

-- a line with its line feed
abbrev pub fed : List ℕ → List ℕ
fed line = line ++ 10 ∷ []

-- the bytes are the first of a file; of one that isn't there only no bytes are
abbrev pub BeginsFile : Option (List ℕ) → List ℕ → Type 0
BeginsFile None front = front ≡ []
BeginsFile (Some file) front = (rest : List ℕ) × (file ≡ front ++ rest)

abbrev pub Begins : Option Files → List ℕ → List ℕ → Type 0
Begins None name front = ⊤
Begins (Some files) name front = BeginsFile (file_of name files) front

-- the bytes are the whole file of this name
abbrev pub IsFile : Option Files → List ℕ → List ℕ → Type 0
IsFile None name text = ⊤
IsFile (Some files) name text = file_of name files ≡ Some text

-- there is no file of this name
abbrev pub IsAbsent : Option Files → List ℕ → Type 0
IsAbsent None name = ⊤
IsAbsent (Some files) name = file_of name files ≡ None

-- what a reader keeps: the line last given, the bytes that it read behind it, how many bytes it gave
-- before them, and the greatest lengths of a line and of the file
pub record Kept : Type 0 where
  pub line : List ℕ
  pub ahead : List ℕ
  pub given : ℕ
  pub line_limit : ℕ
  pub file_limit : ℕ

-- the reader has given these bytes of the named file
pub record HasGiven (files : Option Files) (name given : List ℕ) (kept : Kept) : Type 0 where
  pub count : kept.given ≡ length given
  pub front : Begins files name (given ++ kept.ahead)

-- these bytes of the file come next: a line longer than the limit
pub record IsLongLine (files : Option Files) (name given : List ℕ) (line_limit file_limit : ℕ) : Type 0 where
  pub front : List ℕ
  pub line : IsLine front
  pub long : length front ≡ line_limit + 1
  pub within : length given + length front ≤ file_limit
  pub there : Begins files name (given ++ front)

-- a line that goes on past the limit of the file
pub record IsPastLimit (files : Option Files) (name given : List ℕ) (line_limit file_limit : ℕ) : Type 0 where
  pub front : List ℕ
  pub past : ℕ
  pub line : IsLine front
  pub short : length front ≤ line_limit
  pub full : length given + length front ≡ file_limit
  pub there : Begins files name (given ++ front ++ past ∷ [])

-- a line with its line feed comes next, within the limits
pub record IsNextLine (files : Option Files) (name given : List ℕ) (kept : Kept) : Type 0 where
  pub line : IsLine kept.line
  pub short : length kept.line ≤ kept.line_limit
  pub within : length given + length kept.line + 1 ≤ kept.file_limit
  pub passed : HasGiven files name (given ++ fed kept.line) kept

-- a line that ends with the file comes next, within the limits
pub record IsLastCut (files : Option Files) (name given : List ℕ) (kept : Kept) : Type 0 where
  pub line : IsLine kept.line
  pub some : 0 < length kept.line
  pub short : length kept.line ≤ kept.line_limit
  pub within : length given + length kept.line ≤ kept.file_limit
  pub whole : IsFile files name (given ++ kept.line)

-- why no more of a file is read behind these bytes
abbrev pub StopsAt : Option Files → List ℕ → List ℕ → ℕ → ℕ → LinesFault → Type 0
StopsAt files name given line_limit file_limit Absent = IsAbsent files name
StopsAt files name given line_limit file_limit ReadFault = ⊤
StopsAt files name given line_limit file_limit LineTooLong = IsLongLine files name given line_limit file_limit
StopsAt files name given line_limit file_limit FileTooLarge = IsPastLimit files name given line_limit file_limit
StopsAt files name given line_limit file_limit NoMemory = ⊤

-- what comes behind the bytes given so far
abbrev pub GivesNext : Option Files → List ℕ → List ℕ → Kept → Result Found LinesFault → Type 0
GivesNext files name given kept (Ok Line) = IsNextLine files name given kept
GivesNext files name given kept (Ok Cut) = IsLastCut files name given kept
GivesNext files name given kept (Ok End) = IsFile files name given
GivesNext files name given kept (Err fault) = StopsAt files name given kept.line_limit kept.file_limit fault
