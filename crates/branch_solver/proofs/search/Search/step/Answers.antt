use Rattle.std.proofs.Common.{◌≡◌, ◌<◌, ◌≤◌, true, false, sym, subst, arith}
use Rattle.branch_solver.specs.declared.progress.Progress.{Progress}
use Rattle.branch_solver.specs.Steps.{Steps}
use Rattle.branch_solver.proofs.Giving.{stands_longer}
use Rattle.branch_solver.proofs.Stepping.{steps_ended, steps_cut_off}
use Rattle.branch_solver.proofs.search.Search.step.Goals as goal

pub returns-then-self-clause-steps : goal.returns-then-self-clause-steps
returns-then-self-clause-steps c = λ lines stands.
    let whole : c.args.self.now.whole ≡ true = rw (← c.self.view_is) c.if-self.true in
    let P : Progress → Type 0 = λ p. Steps c.args.program.now lines c.args.self.now c.args.line.now.line c.args.self.now p in
    subst P (sym c.end.ensures) (steps_ended c.args.program.now lines c.args.self.now c.args.line.now.line stands whole)

pub returns-then-self-2-clause-steps : goal.returns-then-self-2-clause-steps
returns-then-self-2-clause-steps c = λ lines stands.
    let unfinished : c.args.self.now.whole ≡ false = rw (← c.self.view_is) c.if-self.false in
    let full : c.args.self.now.budget ≤ c.args.self.now.count = rw (← c.self.view_is) (omega (arith, c.if-self-2.true)) in
    steps_cut_off c.args.program.now lines c.args.self.now c.args.line.now.line c.value.result stands unfinished full (rw (← c.self.view_is) c.value.ensures)

pub returns-clause-steps : goal.returns-clause-steps
returns-clause-steps c = λ lines stands.
    let unfinished : c.args.self.now.whole ≡ false = rw (← c.self.view_is) c.if-self.false in
    let more : c.args.self.now.count < c.args.self.now.budget = rw (← c.self.view_is) (omega (arith, c.if-self-2.false)) in
    stands_longer c.args.program.now lines c.args.self.now c.go_on.new.line.line c.go_on.new.self stands unfinished more c.go_on.ensures.line
