-- What the shelves in memory that never fail hold.
use Rattle.std.specs.Prelude.{ℕ, Result, Ok, Err}
use Rattle.span_base.specs.Counts.{next_count}
use Rattle.span_base.specs.Files.{Files}
use Rattle.span_base.specs.declared.shelf.ShelfError.{ShelfError}
use Rattle.span_base.specs.declared.shelf.ShelfError.TheVariants.{Absent, Failed, NoMemory}

-- a calm shelf: its files, and how often one was absent
pub record HeldFiles : Type 0 where
  pub files : Files
  pub absences : ℕ

-- a calm shelf after a read with this answer
abbrev pub after_calm_read : HeldFiles → Result ℕ ShelfError → HeldFiles
after_calm_read held (Ok n) = held
after_calm_read held (Err Absent) = record held { absences = next_count held.absences }
after_calm_read held (Err Failed) = held
after_calm_read held (Err NoMemory) = held
