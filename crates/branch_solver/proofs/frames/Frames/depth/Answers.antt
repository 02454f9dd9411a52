use Rattle.std.proofs.Common.{length, arith}
use Rattle.branch_solver.specs.Frames.{turns_from}
use Rattle.branch_solver.proofs.Stacking.{stack_live}
use Rattle.branch_solver.proofs.frames.Frames.depth.Goals as goal

pub returns : goal.returns
returns c =
    let live = stack_live c.self.inside.pool c.self.inside.deepest (turns_from (length c.self.inside.pool) c.self.inside.pool c.self.inside.deepest) c.self.invariant.stack in
    rw (← c.self.view_is) (omega (arith, c.live.ensures, live))
