use Rattle.std.proofs.Common.{◌∙◌, ap, length}
use Rattle.cert_checker.proofs.Trails.{length-fixed_over}
use Rattle.branch_solver.proofs.search.Search.go_on.Goals as goal

pub write_node-branch-requires-clause-vars : goal.write_node-branch-requires-clause-vars
write_node-branch-requires-clause-vars c =
    let size = rw (← c.self.view_is) at c.requires.variables in
    ap length c.fixed.ensures ∙ length-fixed_over c.self.inside.path.variables c.self.inside.path.turns ∙ size
