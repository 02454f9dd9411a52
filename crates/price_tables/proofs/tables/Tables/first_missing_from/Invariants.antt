use Rattle.std.proofs.Common.{ℕ, ◌<◌, IsSome}
use Rattle.price_tables.specs.Tables.{link_at}
use Rattle.price_tables.proofs.tables.Tables.first_missing_from.Given as goal

abbrev pub invariant-loop-to : goal.invariant-loop-to
invariant-loop-to l = (b : ℕ) → b < l.to → IsSome (link_at l.self l.from.0 b)
