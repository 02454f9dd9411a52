-- How large the numbers are that the bound of a leaf is made of.
use Rattle.std.specs.Prelude.{ℕ, ◌^◌, ◌<◌, ◌≤◌, unsigned_abs, List, sum_by}
use Rattle.zero_one.specs.declared.rows.Entry.{Entry}
use Rattle.zero_one.specs.declared.rows.Row.{Row}
use Rattle.zero_one.specs.Rows.{row_weight}
use Rattle.bound_cert.specs.declared.leaves.Pair.{Pair}
use Rattle.bound_cert.specs.Leaves.{row_at}

-- the absolute values of the coefficients, added up
abbrev pub coefs_size : List Entry → ℕ
coefs_size entries = sum_by (λ entry. unsigned_abs entry.coef) entries

-- the weights of the pairs' rows, added up
abbrev pub pairs_weight : List Row → List Pair → ℕ
pairs_weight rows pairs = sum_by (λ pair. row_weight (row_at rows pair.row)) pairs

-- a cost of a program
abbrev pub IsCheap : ℕ → Type 0
IsCheap cost = cost < 10 ^ 24

-- the multiplier is in range
abbrev pub HasRanges : Pair → Type 0
HasRanges pair = pair.mult ≤ 10 ^ 30
