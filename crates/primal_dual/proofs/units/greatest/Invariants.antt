use Rattle.std.proofs.Common.{◌<◌, ◌^◌}
use Rattle.primal_dual.proofs.units.greatest.Given as goal

abbrev pub invariant-loop-cost : goal.invariant-loop-cost
invariant-loop-cost l = l.greatest < 10 ^ 24
