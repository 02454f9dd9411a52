use Rattle.std.specs.Prelude.{◌≡◌, ℕ, max, ℤ, unsigned_abs, List, [], ◌∷◌, length}
use Rattle.zero_one.specs.Contents.{Contents}
use Rattle.dual_ascent.specs.Columns.{Extent}

-- the greatest absolute value
unfoldable pub reach : List ℤ → ℕ
reach [] = 0
reach (e ∷ es) = max (unsigned_abs e) (reach es)

-- of how many variables the choice is, in how many rows, and how far the excess of a row is from 0 at most
pub record Tallied : Type 0 where
  pub variables : ℕ
  pub rows : ℕ
  pub reach : ℕ

-- the tally is of the program's variables and rows
pub record IsTallyFor (program : Contents) (tally : Tallied) : Type 0 where
  pub variables : tally.variables ≡ length program.costs
  pub rows : tally.rows ≡ length program.rows

-- all parts are for so many variables and rows
pub record IsSized (columns : Extent) (stack variables rows : ℕ) : Type 0 where
  pub columns_of : columns.variables ≡ variables
  pub columns_in : columns.rows ≡ rows
  pub stacked : stack ≡ rows
