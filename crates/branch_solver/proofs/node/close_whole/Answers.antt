use Rattle.std.proofs.Common.{subst}
use Rattle.bound_cert.specs.declared.leaves.Goal.{Goal}
use Rattle.dual_ascent.specs.Short.{NoShortEnds}
use Rattle.branch_solver.proofs.Ends.{whole_closes}
use Rattle.branch_solver.proofs.node.close_whole.Goals as goal

pub prove-unreachable-requires : goal.prove-unreachable-requires
prove-unreachable-requires c =
    let P : Goal → Type 0 = λ g. NoShortEnds c.args.program.now c.args.fixed.now g in
    whole_closes c.args.program.now c.requires.within c.args.fixed.now c.offer_whole.new.desk.incumbent.best c.requires.vars c.requires.whole c.offer_whole.ensures.answered (subst P c.goal.ensures c.if-prove.ensures.line)
