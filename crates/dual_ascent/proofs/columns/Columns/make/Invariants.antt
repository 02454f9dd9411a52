use Rattle.std.proofs.Common.{◌≡◌, [], length}
use Rattle.std.specs.List.{All}
use Rattle.dual_ascent.proofs.columns.Columns.make.Given as goal

abbrev pub invariant-loop : goal.invariant-loop
invariant-loop l = All (λ column. column ≡ []) l.columns.items × (length l.columns.items ≡ l.index)
