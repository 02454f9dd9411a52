use Rattle.std.proofs.Common.{[], ◌∷◌, ◌++◌, ◌∙◌, arith, length-append}
use Rattle.branch_solver.proofs.tests.search.Goals as goal

pub loop-lines-preserved : goal.loop-lines-preserved
loop-lines-preserved c =
    let fed = c.loop-lines.invariant.3.0 in
    let line = c.line-in-loop-lines-2.result.now in
    let taken = c.in_default.ensures fed c.loop-lines.invariant.3.1 in (
      c.step-end.ensures.variables ∙ c.loop-lines.invariant.0,
      c.step-end.ensures.rows ∙ c.loop-lines.invariant.1,
      c.step-end.ensures.room ∙ c.loop-lines.invariant.2,
      (fed ++ line ∷ [], taken.1, omega (arith, length-append fed (line ∷ []), c.loop-lines.invariant.3.2)),
    )
