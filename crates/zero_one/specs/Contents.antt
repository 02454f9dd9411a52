use Rattle.std.specs.Prelude.{ℕ, List}
use Rattle.zero_one.specs.declared.rows.Row.{Row}

-- what a 0-1 program says: a cost for each variable, and its rows
pub record Contents : Type 0 where
  pub costs : List ℕ
  pub rows : List Row
