use Rattle.std.specs.Prelude.{ℕ, ◌<◌, ◌≤◌, ◌^◌, List, map, All}
use Rattle.std.specs.List.Sorted.{IsStrictlyIncreasing}
use Rattle.bound_cert.specs.declared.leaves.Pair.{Pair}

-- pairs of the first rows, in order, with multipliers in range
pub record AreInOrder (rows : ℕ) (pairs : List Pair) : Type 0 where
  pub multipliers : All (λ pair. (1 ≤ pair.mult) × (pair.mult ≤ 10 ^ 30)) pairs
  pub rising : IsStrictlyIncreasing (map (λ pair. pair.row) pairs)
  pub existing : All (λ pair. pair.row < rows) pairs
