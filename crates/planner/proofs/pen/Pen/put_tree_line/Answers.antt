use Rattle.planner.proofs.Telling.{told_before, told_line}
use Rattle.planner.proofs.pen.Pen.put_tree_line.Goals as goal

pub returns-in_err-push_tree_line-clause-tells : goal.returns-in_err-push_tree_line-clause-tells
returns-in_err-push_tree_line-clause-tells g c from text said = told_before _ _ _ _ _ _ _ c.from_residual.ensures.0 said

pub returns-clause-tells : goal.returns-clause-tells
returns-clause-tells g c from text said =
    told_line _ _ _ _ _ _ _ _ _ c.clear.ensures.bytes c.in_ok-push_tree_line.ensures c.deref.ensures (c.put_line.ensures.tells from text (rw c.self.view_is said))
