use Rattle.std.proofs.Common.{◌≡◌, sym, ap, subst}
use Rattle.bound_cert.specs.declared.leaves.Line.{Line}
use Rattle.bound_cert.specs.declared.leaves.Line.TheVariants.{Branch}
use Rattle.dual_ascent.specs.Short.{NoShortEnds}
use Rattle.branch_solver.specs.Best.{goal_of}
use Rattle.branch_solver.specs.Buffers.{Buffer}
use Rattle.branch_solver.specs.Given.{IsGivenUnder}
use Rattle.branch_solver.proofs.Ends.{rows_hold}
use Rattle.branch_solver.proofs.node.write_node.Goals as goal

pub returns-clause-line : goal.returns-clause-line
returns-clause-line c =
    let line_is : c.write_branch.new.self.line ≡ Branch c.in-Some.var = ap (λ (b : Buffer). b.line) c.write_branch.ensures in
    let none : NoShortEnds c.args.program.now c.args.fixed.now (goal_of c.settle.new.desk.incumbent.best) = c.if-settle.ensures.line in
    let P : Line → Type 0 = λ l. IsGivenUnder c.args.program.now (goal_of c.settle.new.desk.incumbent.best) c.args.fixed.now l in (
      line_is,
      subst P (sym line_is) (c.in-Some.ensures.least, rows_hold c.args.program.now c.in-Some.ensures.within c.args.fixed.now (goal_of c.settle.new.desk.incumbent.best) c.requires.vars none),
      none,
    )
