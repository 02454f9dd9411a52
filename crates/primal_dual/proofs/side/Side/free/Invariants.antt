use Rattle.primal_dual.specs.Sides.{IsSameSide}
use Rattle.primal_dual.proofs.side.Side.free.Given as goal

abbrev pub invariant-loop-line : goal.invariant-loop-line
invariant-loop-line l = IsSameSide l.initial.self l.self
