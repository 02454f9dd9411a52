use Rattle.std.specs.Prelude.{◌≡◌, ℕ, ◌+◌, ◌<◌, ℤ, pos, ◌≤ℤ◌, unsigned_abs, Bool, true, false, if◌then◌else◌, List, length, map, Option, Some, None, All, sum_by, slice_index_or}
use Rattle.std.specs.Int.{int_max}
use Rattle.std.specs.List.Sorted.{IsStrictlyIncreasing}
use Rattle.zero_one.specs.Sums.{int_sum_by}
use Rattle.zero_one.specs.declared.rows.Entry.{Entry}
use Rattle.zero_one.specs.declared.rows.Row.{Row}

-- the bit that the assignment gives the variable
abbrev pub bit_of : List Bool → ℕ → Bool
bit_of x var = slice_index_or x var false

-- the bit that is fixed for the variable, if it isn't free
abbrev pub fixed_bit : List (Option Bool) → ℕ → Option Bool
fixed_bit fixed var = slice_index_or fixed var None

-- the coefficients of the variables that are 1, added up
abbrev pub row_sum : List Entry → List Bool → ℤ
row_sum entries x = int_sum_by (λ entry. if bit_of x entry.var then entry.coef else pos 0) entries

-- the assignment meets the row: its sum is at least the bound
abbrev pub Meets : List Bool → Row → Type 0
Meets x row = row.bound ≤ℤ row_sum row.entries x

-- the assignment has a bit for each variable, and gives each fixed one its bit
pub record Agrees (fixed : List (Option Bool)) (x : List Bool) : Type 0 where
  pub bits : length x ≡ length fixed
  pub same : (var : ℕ) (bit : Bool) → fixed_bit fixed var ≡ Some bit → bit_of x var ≡ bit

-- the row can hold by itself: some assignment that agrees with the fixed variables meets it
pub record CanHold (fixed : List (Option Bool)) (row : Row) : Type 0 where
  pub assignment : List Bool
  pub agrees : Agrees fixed assignment
  pub met : Meets assignment row

-- the row speaks of the first `count` variables alone
abbrev pub KnowsItsVars : ℕ → Row → Type 0
KnowsItsVars count row = All (λ entry. entry.var < count) row.entries

-- the variables of the row rise strictly
abbrev pub HasRisingVars : Row → Type 0
HasRisingVars row = IsStrictlyIncreasing (map (λ entry. entry.var) row.entries)

-- the weight of a row: the absolute values of its bound and its coefficients, added up
abbrev pub row_weight : Row → ℕ
row_weight row = unsigned_abs row.bound + sum_by (λ entry. unsigned_abs entry.coef) row.entries

-- the weight of rows: theirs, added up
abbrev pub weight_of : List Row → ℕ
weight_of rows = sum_by row_weight rows

-- the most that an entry adds to a sum: nothing where its variable is fixed to 0, and never less than nothing where it is free
abbrev pub most_of : Option Bool → ℤ → ℤ
most_of (Some true) coef = coef
most_of (Some false) coef = pos 0
most_of None coef = int_max coef (pos 0)

-- the greatest sum that the fixed variables leave
abbrev pub greatest_sum : List Entry → List (Option Bool) → ℤ
greatest_sum entries fixed = int_sum_by (λ entry. most_of (fixed_bit fixed entry.var) entry.coef) entries
