use Rattle.std.specs.Prelude.{◌≡◌, ℕ, zero, suc, ℤ, pos, ◌-ℤ◌, ◌*ℤ◌, ◌<ℤ◌, List, [], ◌∷◌, Any, slice_index}
use Rattle.zero_one.specs.Contents.{Contents}
use Rattle.bound_cert.specs.declared.leaves.Pair.{Pair}
use Rattle.bound_cert.specs.declared.leaves.Leaf.{Leaf}
use Rattle.bound_cert.specs.declared.leaves.Goal.{Goal}
use Rattle.bound_cert.specs.declared.leaves.Goal.TheVariants.{Cost, Nothing}
use Rattle.bound_cert.specs.Leaves.{row_at, LeafFits}

-- a leaf with this value and this `s` ends the search for the goal: what is left can't be cheaper, or can't be feasible
abbrev pub Closes : ℤ → ℕ → Goal → Type 0
Closes value zero goal = pos 0 <ℤ value
Closes value (suc s) (Cost cost) = (pos (suc s) *ℤ (pos cost -ℤ pos 1)) <ℤ value
Closes value (suc s) Nothing = ⊥

-- the multiplier is the cost of a variable of its row
abbrev pub IsCostInRow : Contents → Pair → Type 0
IsCostInRow program pair =
    Any (λ entry. slice_index program.costs entry.var ≡ pair.mult) (row_at program.rows pair.row).entries

-- with `s` 1 no row, or one taken by the cost of one of its variables; with `s` 0 one row taken once
abbrev pub HasShortForm : Contents → ℕ → List Pair → Type 0
HasShortForm program zero [] = ⊥
HasShortForm program zero (pair ∷ []) = pair.mult ≡ 1
HasShortForm program zero (pair ∷ (next ∷ rest)) = ⊥
HasShortForm program (suc zero) [] = Unit {0}
HasShortForm program (suc zero) (pair ∷ []) = IsCostInRow program pair
HasShortForm program (suc zero) (pair ∷ (next ∷ rest)) = ⊥
HasShortForm program (suc (suc s)) pairs = ⊥

-- a short leaf: one that fits and takes at most one row, by an evident multiplier
pub record IsShort (program : Contents) (leaf : Leaf) : Type 0 where
  pub fits : LeafFits program leaf
  pub form : HasShortForm program leaf.s leaf.pairs
