use Rattle.std.proofs.Common.{ℕ, ◌<◌, IsSome}
use Rattle.price_tables.specs.Tables.{link_at, count_of}
use Rattle.price_tables.proofs.tables.Tables.first_missing.Given as goal

abbrev pub invariant-loop-from : goal.invariant-loop-from
invariant-loop-from l = (a b : ℕ) → a < l.from → b < count_of l.self → IsSome (link_at l.self a b)
