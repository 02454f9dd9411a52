use Rattle.std.proofs.Common.{◌≡◌, take}
use Rattle.zero_one.specs.Rows.{greatest_sum}
use Rattle.zero_one.proofs.rows.Row.greatest_sum.Given as goal

abbrev pub invariant-loop-entry : goal.invariant-loop-entry
invariant-loop-entry l = l.sum ≡ greatest_sum (take l.entry-index l.entry-items) l.fixed
