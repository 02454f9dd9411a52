use Rattle.std.specs.List.{All}
use Rattle.primal_dual.specs.Locals.{IsLocal, IsShown}
use Rattle.primal_dual.proofs.local.Local.sweep_long.Given as goal

abbrev pub invariant-loop-long : goal.invariant-loop-long
invariant-loop-long l =
    record {
      local : All (IsLocal l.fn.self.limit) l.coordinates;
      visible : All (IsShown l.fn.self.limit) l.shown;
    }
