use Rattle.std.proofs.Common.{◌≡◌}
use Rattle.dual_ascent.proofs.tally.first_unmet.Given as goal

abbrev pub invariant-loop : goal.invariant-loop
invariant-loop l = l.unmet ≡ l.fn.unmet
