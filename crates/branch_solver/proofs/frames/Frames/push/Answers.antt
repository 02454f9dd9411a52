use Rattle.std.proofs.Common.{◌∙◌, ap, set, Some}
use Rattle.bound_cert.specs.Trees.{IsFree}
use Rattle.branch_solver.proofs.Stacking.{pushes}
use Rattle.branch_solver.proofs.frames.Frames.push.Goals as goal

pub invariant_of-self : goal.invariant_of-self
invariant_of-self c =
    let asked = rw (← c.self.view_is) at c.requires in
    let free : IsFree c.self.inside.fixed c.args.turn.var = rw c.self.invariant.fixes asked in
    let fixed = c.set.ensures ∙ ap (λ var. set c.self.inside.fixed var (Some c.args.turn.bit)) c.from.ensures in
    rw c.ok-self-inside.ensures.value (pushes c.args.turn c.put.result c.self.invariant free c.put.ensures.full c.put.ensures.handle c.put.ensures.slots fixed).0

pub returns : goal.returns
returns c =
    let asked = rw (← c.self.view_is) at c.requires in
    let free : IsFree c.self.inside.fixed c.args.turn.var = rw c.self.invariant.fixes asked in
    let fixed = c.set.ensures ∙ ap (λ var. set c.self.inside.fixed var (Some c.args.turn.bit)) c.from.ensures in
    rw (← c.self.view_is, c.ok-self-inside.ensures.value) (pushes c.args.turn c.put.result c.self.invariant free c.put.ensures.full c.put.ensures.handle c.put.ensures.slots fixed).1
