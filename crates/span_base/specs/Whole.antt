-- What reading a file whole may answer.
use Rattle.std.specs.Prelude.{ℕ, ◌≡◌, ◌<◌, ◌≤◌, List, length, Option, Some, None, Result, Ok, Err, ⊤}
use Rattle.span_base.specs.Files.{Files, file_of}
use Rattle.span_base.specs.declared.reading.FileFault.{FileFault}
use Rattle.span_base.specs.declared.reading.FileFault.TheVariants.{Absent, ReadFault, TooLarge, NoMemory}

-- what reading a file whole may answer, by whether it is there
abbrev pub ReadsWholeFile : Option (List ℕ) → ℕ → Result (List ℕ) FileFault → Type 0
ReadsWholeFile None limit (Ok bytes) = ⊥
ReadsWholeFile None limit (Err Absent) = ⊤
ReadsWholeFile None limit (Err ReadFault) = ⊤
ReadsWholeFile None limit (Err TooLarge) = ⊥
ReadsWholeFile None limit (Err NoMemory) = ⊤
ReadsWholeFile (Some file) limit (Ok bytes) = (bytes ≡ file) × (length file ≤ limit)
ReadsWholeFile (Some file) limit (Err Absent) = ⊥
ReadsWholeFile (Some file) limit (Err ReadFault) = ⊤
ReadsWholeFile (Some file) limit (Err TooLarge) = limit < length file
ReadsWholeFile (Some file) limit (Err NoMemory) = ⊤

-- what reading a named file whole may answer: anything where the files aren't told
abbrev pub ReadsWhole : Option Files → List ℕ → ℕ → Result (List ℕ) FileFault → Type 0
ReadsWhole None name limit result = ⊤
ReadsWhole (Some files) name limit result = ReadsWholeFile (file_of name files) limit result
