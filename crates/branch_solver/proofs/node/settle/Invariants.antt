use Rattle.std.proofs.Common.{◌≡◌}
use Rattle.branch_solver.specs.Nodes.{Improves, IsReady}
use Rattle.branch_solver.proofs.node.settle.Given as goal

abbrev pub invariant-loop : goal.invariant-loop
invariant-loop l =
    IsReady l.program l.desk
    × Improves l.program l.fn.desk.incumbent l.desk.incumbent
    × (l.line.room ≡ l.fn.line.room)
