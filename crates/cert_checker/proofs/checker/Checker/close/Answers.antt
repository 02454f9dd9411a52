use Rattle.std.proofs.Common.{◌∙◌, ap, length}
use Rattle.cert_checker.proofs.Trails.{length-fixed_over}
use Rattle.cert_checker.proofs.checker.Checker.close.Goals as goal

pub value_of_leaf-requires-clause-vars : goal.value_of_leaf-requires-clause-vars
value_of_leaf-requires-clause-vars c =
    let size = rw (← c.self.view_is) at c.requires.variables in
    ap length c.fixed.ensures ∙ length-fixed_over c.self.inside.path.variables c.self.inside.path.turns ∙ size
