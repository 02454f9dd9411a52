use Rattle.std.specs.List.{All}
use Rattle.primal_dual.specs.Locals.{IsLocal, IsShown}
use Rattle.primal_dual.proofs.local.Local.sweep_couples.Given as goal

abbrev pub invariant-loop-couple : goal.invariant-loop-couple
invariant-loop-couple l =
    record {
      local : All (IsLocal l.fn.self.limit) l.coordinates;
      visible : All (IsShown l.fn.self.limit) l.shown;
    }
