use Rattle.std.proofs.Common.{◌≤◌}
use Rattle.primal_dual.specs.Engines.{KeepsRoom}
use Rattle.primal_dual.proofs.engine.Engine.go.Given as goal

abbrev pub invariant-loop-round : goal.invariant-loop-round
invariant-loop-round l =
    record {
      room : KeepsRoom l.fn.self l.self;
      begun : l.progress.stretch.begin ≤ l.round;
    }
