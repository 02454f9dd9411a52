use Rattle.std.specs.Prelude.{◌≡◌, ℕ, ◌<◌, ◌≤◌, Bool, List, length, All, count_by}

-- there is a place for each row; the rows that stand there are rows, and at least as many wait as stand there
pub record IsStack (rows : List ℕ) (count : ℕ) (waits : List Bool) : Type 0 where
  pub places : length rows ≡ length waits
  pub known : All (λ row. row < length waits) rows
  pub waiting : count ≤ count_by (λ is_waiting. is_waiting) waits
