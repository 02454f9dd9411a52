-- What a search for a line feed finds.
use Rattle.std.specs.Prelude.{◌≡◌, ℕ, ◌+◌, ◌<◌, ◌≤◌, List, ◌++◌, length, take, Option, Some, None, Result, Ok, Err, ⊤}
use Rattle.span_base.specs.Files.{Files}
use Rattle.shelf_lines.specs.declared.limits.LinesFault.{LinesFault}
use Rattle.shelf_lines.specs.declared.limits.LinesFault.TheVariants.{Absent, ReadFault, LineTooLong, FileTooLarge, NoMemory}
use Rattle.shelf_lines.specs.Lines.{IsLine, fed, Begins, IsFile, IsAbsent, StopsAt}

-- a fault of the shelf, or want of memory
abbrev pub IsShelfFault : Option Files → List ℕ → LinesFault → Type 0
IsShelfFault files name Absent = IsAbsent files name
IsShelfFault files name ReadFault = ⊤
IsShelfFault files name NoMemory = ⊤
IsShelfFault files name other = ⊥

-- the bytes read begin with a line of this length and its line feed
pub record IsFedAt (bytes : List ℕ) (len line_limit room : ℕ) : Type 0 where
  pub line : IsLine (take len bytes)
  pub there : len + 1 ≤ length bytes
  pub feed : take (len + 1) bytes ≡ fed (take len bytes)
  pub short : len ≤ line_limit
  pub within : len + 1 ≤ room

-- the bytes read are a line that ends with the file
pub record IsRest (bytes : List ℕ) (line_limit room : ℕ) : Type 0 where
  pub line : IsLine bytes
  pub short : length bytes ≤ line_limit
  pub within : length bytes ≤ room

-- where the bytes read begin with a line and its line feed, its length; none where the file ends with them
abbrev pub Finds : Option Files → List ℕ → List ℕ → ℕ → ℕ → List ℕ → Result (Option ℕ) LinesFault → Type 0
Finds files name given line_limit file_limit bytes (Ok (Some len)) = Begins files name (given ++ bytes)
Finds files name given line_limit file_limit bytes (Ok None) = IsFile files name (given ++ bytes)
Finds files name given line_limit file_limit bytes (Err fault) = StopsAt files name given line_limit file_limit fault

abbrev pub FindsWithin : ℕ → ℕ → List ℕ → Result (Option ℕ) LinesFault → Type 0
FindsWithin line_limit room bytes (Ok (Some len)) = IsFedAt bytes len line_limit room
FindsWithin line_limit room bytes (Ok None) = IsRest bytes line_limit room
FindsWithin line_limit room bytes (Err fault) = ⊤
