use Rattle.std.specs.Prelude.{ℕ}

-- how large the lines of a side are: how many there are, how many on the other side, and at most what the absolute values of the coefficients of a line add up to
pub record Sizes : Type 0 where
  pub lines : ℕ
  pub others : ℕ
  pub size : ℕ
