-- What the leaves with `s > 0` show: each a ceiling, the least integer that `s` times reaches its value. Lines are counted from 1.
use Rattle.std.specs.Prelude.{◌≡◌, ℕ, ◌-◌, ◌<◌, ◌≤◌, ℤ, pos, ◌*ℤ◌, ◌≤ℤ◌, int_lt, if◌then◌else◌, List, take, Option, Some, None, slice_get}
use Rattle.zero_one.specs.Contents.{Contents}
use Rattle.bound_cert.specs.declared.leaves.Leaf.{Leaf}
use Rattle.bound_cert.specs.declared.leaves.Line.{Line}
use Rattle.bound_cert.specs.declared.leaves.Line.TheVariants.{Close}
use Rattle.bound_cert.specs.Leaves.{leaf_bound}
use Rattle.cert_checker.specs.declared.ceilings.Ceilings.{Ceilings}
use Rattle.cert_checker.specs.declared.turns.Turn.{Turn}
use Rattle.cert_checker.specs.Paths.{path_after, fixed_by}

-- the least integer that reaches the value when it is taken `s` times
pub record IsCeiling (value : ℤ) (s : ℕ) (ceiling : ℤ) : Type 0 where
  pub reaches : value ≤ℤ (pos s *ℤ ceiling)
  pub least : (other : ℤ) → value ≤ℤ (pos s *ℤ other) → ceiling ≤ℤ other

-- the line with this number is a leaf with `s > 0`
pub record IsBoundingAt (lines : List Line) (number : ℕ) : Type 0 where
  pub end : Leaf
  pub counted : 1 ≤ number
  pub here : slice_get lines (number - 1) ≡ Some (Close end)
  pub bounding : 0 < end.s

-- the line with this number is a leaf with `s > 0`, and this is its ceiling
pub record IsCeilingAt (program : Contents) (lines : List Line) (number : ℕ) (ceiling : ℤ) : Type 0 where
  pub end : Leaf
  pub path : List Turn
  pub counted : 1 ≤ number
  pub here : slice_get lines (number - 1) ≡ Some (Close end)
  pub bounding : 0 < end.s
  pub below : path_after (take (number - 1) lines) ≡ Some path
  pub height : IsCeiling (leaf_bound program (fixed_by program path) end) end.s ceiling

-- the first leaf with `s > 0` is the line with this number
pub record IsFirstBounding (lines : List Line) (number : ℕ) : Type 0 where
  pub here : IsBoundingAt lines number
  pub first : (other : ℕ) → IsBoundingAt lines other → number ≤ other

-- the least ceiling, and the number of the first line that has it
pub record IsLeastCeiling (program : Contents) (lines : List Line) (number : ℕ) (ceiling : ℤ) : Type 0 where
  pub here : IsCeilingAt program lines number ceiling
  pub least : (other : ℕ) (higher : ℤ) → IsCeilingAt program lines other higher → ceiling ≤ℤ higher
  pub first : (other : ℕ) → IsCeilingAt program lines other ceiling → number ≤ other

-- no leaf has `s > 0`; or this is the first one's line, and the least ceiling with its first line
abbrev pub AreCeilingsOf : Contents → List Line → Option Ceilings → Type 0
AreCeilingsOf program lines None = (number : ℕ) → ¬ IsBoundingAt lines number
AreCeilingsOf program lines (Some ceilings) =
    IsFirstBounding lines ceilings.first × IsLeastCeiling program lines ceilings.line ceilings.least

-- the ceilings with one more, of a later line
abbrev pub ceilings_with : Option Ceilings → ℕ → ℤ → Ceilings
ceilings_with None line ceiling = record { first = line; least = ceiling; line = line }
ceilings_with (Some before) line ceiling =
    if int_lt ceiling before.least then record { first = before.first; least = ceiling; line = line } else before
