-- What reading a named file whole may answer.
use Rattle.std.specs.Prelude.{◌≡◌, ℕ, ◌+◌, ◌<◌, ◌≤◌, List, length, Option, Some, None, Result, Ok, Err}
use Rattle.span_base.specs.Files.{Files, file_of}
use Rattle.span_base.specs.declared.words.What.{What}
use Rattle.span_base.specs.declared.words.What.TheVariants.{Bytes}
use Rattle.span_top.specs.declared.status.Status.{Status}
use Rattle.span_top.specs.declared.status.Status.TheVariants.{NoMemory, Absent, ReadFault, TooLarge}

-- the named file holds these bytes, where the shelf tells its files
abbrev pub Holds : Option Files → List ℕ → List ℕ → Type 0
Holds None name bytes = Unit {0}
Holds (Some files) name bytes = file_of name files ≡ Some bytes

-- there is no such file, where the shelf tells its files
abbrev pub Lacks : Option Files → List ℕ → Type 0
Lacks None name = Unit {0}
Lacks (Some files) name = file_of name files ≡ None

-- the named file has more bytes than this
pub record IsLonger (files : Option Files) (name : List ℕ) (limit : ℕ) : Type 0 where
  pub bytes : List ℕ
  pub held : Holds files name bytes
  pub above : limit < length bytes

-- the named file has at most so many bytes, and this holds of them
pub record FileIs (files : Option Files) (name : List ℕ) (limit : ℕ) (Is : List ℕ → Type 0) : Type 0 where
  pub bytes : List ℕ
  pub held : Holds files name bytes
  pub within : length bytes ≤ limit
  pub is : Is bytes

-- the limit on a file's bytes is passed: it is told as line 0 and the number one above
pub record IsBytesLimit (files : Option Files) (name : List ℕ) (limit line : ℕ) (what : What) (number : ℕ) : Type 0 where
  pub line_is : line ≡ 0
  pub what_is : what ≡ Bytes
  pub number_is : number ≡ limit + 1
  pub longer : IsLonger files name limit

-- how reading the first of the files ends, of which at most so many bytes are read
abbrev pub ReadsFile : Option Files → List ℕ → ℕ → Result (List ℕ) Status → Type 0
ReadsFile files name limit (Ok bytes) = Holds files name bytes × (length bytes ≤ limit)
ReadsFile files name limit (Err NoMemory) = Unit {0}
ReadsFile files name limit (Err (Absent file)) = (file ≡ 0) × Lacks files name
ReadsFile files name limit (Err ReadFault) = Unit {0}
ReadsFile files name limit (Err (TooLarge file line what number)) = (file ≡ 0) × IsBytesLimit files name limit line what number
ReadsFile files name limit (Err other) = ⊥
