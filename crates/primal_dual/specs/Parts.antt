use Rattle.std.specs.Prelude.{◌≡◌, ℕ, ◌<◌, ◌≤◌, ◌^◌, List, length, All}
use Rattle.primal_dual.specs.declared.lines.Couple.{Couple}
use Rattle.primal_dual.specs.declared.lines.Long.{Long}

-- the couple is a line of the side, and names lines of the other side
pub record IsCouple (lines others : ℕ) (couple : Couple) : Type 0 where
  pub line : couple.line < lines
  pub plus : couple.plus < others
  pub minus : couple.minus < others

-- the size is one of a line
pub record IsSize (greatest : ℕ) (size : ℕ) : Type 0 where
  pub least : 1 ≤ size
  pub most : size ≤ greatest
  pub light : size ≤ 10 ^ 7

-- the lines of a side, parted into couples and long ones, and their sizes
pub record AreParted (lines others greatest : ℕ) (couples : List Couple) (long : List Long) (sizes : List ℕ) : Type 0 where
  pub couples_in : All (IsCouple lines others) couples
  pub long_in : All (λ one. one.line < lines) long
  pub count : length sizes ≡ lines
  pub sized : All (IsSize greatest) sizes
