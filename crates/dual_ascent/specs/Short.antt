use Rattle.std.specs.Prelude.{ℕ, ◌<◌, Bool, List, [], ◌∷◌, Option, All, slice_index}
use Rattle.zero_one.specs.Contents.{Contents}
use Rattle.zero_one.specs.Rows.{Agrees}
use Rattle.zero_one.specs.Program.{IsFeasible}
use Rattle.bound_cert.specs.declared.leaves.Pair.{Pair}
use Rattle.bound_cert.specs.declared.leaves.Leaf.{Leaf}
use Rattle.bound_cert.specs.declared.leaves.Goal.{Goal}
use Rattle.zero_one.specs.declared.rows.Entry.{Entry}
use Rattle.bound_cert.specs.Leaves.{leaf_bound, row_at, LeafFits}
use Rattle.bound_cert.specs.Closing.{Closes, IsShort}
use Rattle.dual_ascent.specs.declared.short_leaf.Short.{Short}
use Rattle.dual_ascent.specs.declared.short_leaf.Short.TheVariants.{Costs, OneRow}

-- the leaf ends a path with these fixed variables for the goal
abbrev pub EndsPath : Contents → List (Option Bool) → Goal → Leaf → Type 0
EndsPath program fixed goal leaf = Closes (leaf_bound program fixed leaf) leaf.s goal

-- the assignment is feasible, and gives each fixed variable its bit
pub record IsSolution (program : Contents) (fixed : List (Option Bool)) (x : List Bool) : Type 0 where
  pub feasible : IsFeasible program x
  pub agrees : Agrees fixed x

-- no short leaf ends the path
abbrev pub NoShortEnds : Contents → List (Option Bool) → Goal → Type 0
NoShortEnds program fixed goal = (leaf : Leaf) → IsShort program leaf → ¬ EndsPath program fixed goal leaf

-- the costs, `s` times, without a row
abbrev pub no_row : ℕ → Leaf
no_row s = record { s = s; pairs = [] }

-- the costs, `s` times, with one row
abbrev pub one_row : ℕ → Pair → Leaf
one_row s pair = record { s = s; pairs = pair ∷ [] }

-- the leaf that this stands for
abbrev pub short_leaf : Short → Leaf
short_leaf Costs = no_row 1
short_leaf (OneRow s pair) = one_row s pair

-- a leaf that fits and ends the path
pub record IsEnd (program : Contents) (fixed : List (Option Bool)) (goal : Goal) (leaf : Leaf) : Type 0 where
  pub fits : LeafFits program leaf
  pub ends : EndsPath program fixed goal leaf

-- none of the first rows ends the path by itself
abbrev pub NoRowRefutes : Contents → List (Option Bool) → Goal → ℕ → Type 0
NoRowRefutes program fixed goal count =
    (row : ℕ) → row < count → ¬ EndsPath program fixed goal (one_row 0 (record { row = row; mult = 1 }))

-- the row ends the path, taken by the cost of the entry's variable
abbrev pub PriceEnds : Contents → List (Option Bool) → Goal → ℕ → Entry → Type 0
PriceEnds program fixed goal row entry =
    (0 < slice_index program.costs entry.var) × EndsPath program fixed goal (one_row 1 (record { row = row; mult = slice_index program.costs entry.var }))

-- the row ends the path with no cost of these entries' variables
abbrev pub NoPriceEnds : Contents → List (Option Bool) → Goal → ℕ → List Entry → Type 0
NoPriceEnds program fixed goal row entries = All (λ entry. ¬ PriceEnds program fixed goal row entry) entries

-- none of the first rows ends the path with a cost of its variables
abbrev pub NoRowPrices : Contents → List (Option Bool) → Goal → ℕ → Type 0
NoRowPrices program fixed goal count =
    (row : ℕ) → row < count → NoPriceEnds program fixed goal row (row_at program.rows row).entries
