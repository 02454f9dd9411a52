-- What a shelf holds, and what reading it may answer.
use Rattle.std.specs.Prelude.{ℕ, ◌≡◌, ◌<◌, List, length, take, drop, find, option_map, Option, Some, None, Result, Ok, Err, ⊤}
use Rattle.std.specs.Str.{bytes_eq}
use Rattle.span_base.specs.declared.shelf.ShelfError.{ShelfError}
use Rattle.span_base.specs.declared.shelf.ShelfError.TheVariants.{Absent, Failed, NoMemory}

-- a finite map from names to bytes, as a list of entries of which the first of equal names counts
abbrev pub Files : Type 0
Files = List (List ℕ × List ℕ)

-- the bytes of the first file of this name
abbrev pub file_of : List ℕ → Files → Option (List ℕ)
file_of name files = option_map (λ (file : List ℕ × List ℕ). file.1) (find (λ (file : List ℕ × List ℕ). bytes_eq file.0 name) files)

-- the first n bytes of the buffer are those of the file from this place on, and are none only at or past its end
pub record GivesFrom (file : List ℕ) (at : ℕ) (buf : List ℕ) (n : ℕ) : Type 0 where
  pub bytes : take n buf ≡ take n (drop at file)
  pub some : at < length file → 0 < n

-- what a read at this place may answer, by whether the file is there
abbrev pub ReadsFile : Option (List ℕ) → ℕ → List ℕ → Result ℕ ShelfError → Type 0
ReadsFile None at buf (Ok n) = ⊥
ReadsFile None at buf (Err Absent) = ⊤
ReadsFile None at buf (Err Failed) = ⊤
ReadsFile None at buf (Err NoMemory) = ⊤
ReadsFile (Some file) at buf (Ok n) = GivesFrom file at buf n
ReadsFile (Some file) at buf (Err Absent) = ⊥
ReadsFile (Some file) at buf (Err Failed) = ⊤
ReadsFile (Some file) at buf (Err NoMemory) = ⊤

-- what a read at this place of a named file may answer: anything where the files aren't told
abbrev pub Reads : Option Files → List ℕ → ℕ → List ℕ → Result ℕ ShelfError → Type 0
Reads None name at buf result = ⊤
Reads (Some files) name at buf result = ReadsFile (file_of name files) at buf result
