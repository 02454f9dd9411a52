use Rattle.std.specs.Prelude.{ℕ, ◌*◌, ℤ, pos, ◌-ℤ◌, ◌*ℤ◌, Bool, List, Option, slice_index}
use Rattle.zero_one.specs.Sums.{int_sum_by}
use Rattle.zero_one.specs.declared.rows.Entry.{Entry}
use Rattle.zero_one.specs.Rows.{fixed_bit}
use Rattle.bound_cert.specs.Leaves.{least_of}

-- what a row, taken by the multiplier, changes in the least that a variable of this cost adds
abbrev pub entry_change : List ℕ → List (Option Bool) → ℕ → ℕ → Entry → ℤ
entry_change costs fixed s mult entry =
    least_of (fixed_bit fixed entry.var) (pos (s * slice_index costs entry.var) -ℤ (pos mult *ℤ entry.coef))
    -ℤ least_of (fixed_bit fixed entry.var) (pos (s * slice_index costs entry.var))

-- what the row changes in the least that all its variables add
abbrev pub row_change : List Entry → List ℕ → List (Option Bool) → ℕ → ℕ → ℤ
row_change entries costs fixed s mult = int_sum_by (entry_change costs fixed s mult) entries
