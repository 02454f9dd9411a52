use Rattle.std.proofs.Common.{◌≡◌, List, length}
use Rattle.bound_cert.specs.declared.leaves.Line.{Line}
use Rattle.cert_checker.specs.Kept.{StandsFor}
use Rattle.branch_solver.proofs.tests.search.Given as goal

abbrev pub invariant-loop-lines : goal.invariant-loop-lines
invariant-loop-lines l =
    (l.search.variables ≡ length l.program.costs)
    × (l.search.rows ≡ length l.program.rows)
    × (l.line.room ≡ length l.program.rows)
    × ((fed : List Line) × StandsFor l.program fed l.checker × (length fed ≡ l.lines))
