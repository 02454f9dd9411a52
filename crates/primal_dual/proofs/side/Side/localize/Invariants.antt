use Rattle.std.proofs.Common.{◌≡◌}
use Rattle.primal_dual.proofs.side.Side.localize.Given as goal

abbrev pub invariant-loop-line : goal.invariant-loop-line
invariant-loop-line l = l.self ≡ l.initial.self
