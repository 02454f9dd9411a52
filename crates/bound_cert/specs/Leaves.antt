use Rattle.std.specs.Prelude.{ℕ, zero, suc, ◌*◌, ◌^◌, ◌≤◌, ◌<◌, ℤ, pos, ◌+ℤ◌, ◌-ℤ◌, ◌*ℤ◌, Bool, true, false, if◌then◌else◌, ◌==◌, List, [], length, map, Option, Some, None, All, slice_index, slice_index_or}
use Rattle.std.specs.Int.{int_min}
use Rattle.std.specs.List.Sorted.{IsStrictlyIncreasing}
use Rattle.zero_one.specs.Sums.{int_sum_by}
use Rattle.zero_one.specs.declared.rows.Entry.{Entry}
use Rattle.zero_one.specs.declared.rows.Row.{Row}
use Rattle.zero_one.specs.Contents.{Contents}
use Rattle.zero_one.specs.Rows.{fixed_bit}
use Rattle.bound_cert.specs.declared.leaves.Pair.{Pair}
use Rattle.bound_cert.specs.declared.leaves.Leaf.{Leaf}

-- the row at this place; past the end, one that asks for nothing
abbrev pub row_at : List Row → ℕ → Row
row_at rows at = slice_index_or rows at (record { entries = []; bound = pos 0 })

-- the coefficient of the variable: those of its entries, added up
abbrev pub coef_of : List Entry → ℕ → ℤ
coef_of entries var = int_sum_by (λ entry. if entry.var == var then entry.coef else pos 0) entries

-- what the rows ask for: each multiplier times the bound, added up
abbrev pub bound_part : List Row → List Pair → ℤ
bound_part rows pairs = int_sum_by (λ pair. pos pair.mult *ℤ (row_at rows pair.row).bound) pairs

-- what the rows give for the variable: each multiplier times the coefficient, added up
abbrev pub column_part : List Row → List Pair → ℕ → ℤ
column_part rows pairs var = int_sum_by (λ pair. pos pair.mult *ℤ coef_of (row_at rows pair.row).entries var) pairs

-- the cost that is left of the variable: `s` times its cost, less what the rows give for it
abbrev pub reduced_cost : Contents → Leaf → ℕ → ℤ
reduced_cost program leaf var =
    pos (leaf.s * slice_index program.costs var) -ℤ column_part program.rows leaf.pairs var

-- the least that the variable adds: its reduced cost where it is 1, nothing where it is 0, the lesser of both where it is free
abbrev pub least_of : Option Bool → ℤ → ℤ
least_of (Some true) cost = cost
least_of (Some false) cost = pos 0
least_of None cost = int_min cost (pos 0)

-- the sum over all numbers below the count
abbrev pub sum_below : ℕ → (ℕ → ℤ) → ℤ
sum_below zero part = pos 0
sum_below (suc count) part = sum_below count part +ℤ part count

-- the bound of a leaf: what its rows ask for, and the least that each variable adds
abbrev pub leaf_bound : Contents → List (Option Bool) → Leaf → ℤ
leaf_bound program fixed leaf =
    bound_part program.rows leaf.pairs
    +ℤ sum_below (length program.costs) (λ var. least_of (fixed_bit fixed var) (reduced_cost program leaf var))

-- the leaf is one for the program: a small `s`, and rows of the program in order, each with a multiplier in range
pub record LeafFits (program : Contents) (leaf : Leaf) : Type 0 where
  pub scale : leaf.s ≤ 10 ^ 6
  pub multipliers : All (λ pair. (1 ≤ pair.mult) × (pair.mult ≤ 10 ^ 30)) leaf.pairs
  pub rising : IsStrictlyIncreasing (map (λ pair. pair.row) leaf.pairs)
  pub existing : All (λ pair. pair.row < length program.rows) leaf.pairs
