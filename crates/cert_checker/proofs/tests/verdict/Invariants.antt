use Rattle.std.proofs.Common.{take}
use Rattle.cert_checker.specs.Kept.{StandsFor}
use Rattle.cert_checker.proofs.tests.verdict.Given as goal

abbrev pub invariant-loop-line : goal.invariant-loop-line
invariant-loop-line l = StandsFor l.program (take l.line-index l.lines) l.checker
