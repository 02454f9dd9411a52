use Rattle.std.specs.Prelude.{◌≡◌, ℕ, ◌^◌, ◌<◌, ◌≤◌, ◌⊎◌, List, length, take, All, slice_get, Some}
use Rattle.span_base.specs.declared.words.What.{What}
use Rattle.span_base.specs.declared.words.What.TheVariants.{Variables, Rows, Weight}
use Rattle.zero_one.specs.declared.rows.Row.{Row}
use Rattle.zero_one.specs.declared.programs.ProgramFault.{ProgramFault}
use Rattle.zero_one.specs.declared.programs.ProgramFault.TheVariants.{NoSuchVar, Unsorted, Limit}
use Rattle.zero_one.specs.Rows.{KnowsItsVars, HasRisingVars, weight_of}

-- the row at this place is the first that isn't as asked
pub record IsFirstBreach (Asked : Row → Type 0) (rows : List Row) (at : ℕ) : Type 0 where
  pub before : All Asked (take at rows)
  pub broken : (row : Row) × (slice_get rows at ≡ Some row) × ¬ Asked row

-- some row speaks of a variable that isn't there, and this is the first such row
abbrev pub IsUnknownAt : List ℕ → List Row → ℕ → Type 0
IsUnknownAt costs rows at = IsFirstBreach (KnowsItsVars (length costs)) rows at

-- all variables are there; in some row they don't rise, and this is the first such row
abbrev pub IsUnsortedAt : List ℕ → List Row → ℕ → Type 0
IsUnsortedAt costs rows at = All (KnowsItsVars (length costs)) rows × IsFirstBreach HasRisingVars rows at

-- there are too many variables, else too many rows, else the rows weigh too much; the number says how many or how much
abbrev pub IsPastLimit : List ℕ → List Row → What → ℕ → Type 0
IsPastLimit costs rows what number =
    ((what ≡ Variables) × (number ≡ length costs) × (4096 < number))
    ⊎ (((what ≡ Rows) × (number ≡ length rows) × (length costs ≤ 4096) × (16384 < number))
    ⊎ ((what ≡ Weight) × (number ≡ weight_of rows) × (length costs ≤ 4096) × (length rows ≤ 16384) × (10 ^ 7 < number)))

-- the costs and rows have this fault, and none of those that are looked for before it
abbrev pub HasFault : List ℕ → List Row → ProgramFault → Type 0
HasFault costs rows (NoSuchVar at) = IsUnknownAt costs rows at
HasFault costs rows (Unsorted at) = IsUnsortedAt costs rows at
HasFault costs rows (Limit what number) =
    All (KnowsItsVars (length costs)) rows × All HasRisingVars rows × IsPastLimit costs rows what number
