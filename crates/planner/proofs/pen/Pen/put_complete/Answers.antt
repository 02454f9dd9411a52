use Rattle.planner.proofs.Telling.{told_before, told_lines}
use Rattle.planner.proofs.pen.Pen.put_complete.Goals as goal

pub returns-in_err-push_cost-clause-tells : goal.returns-in_err-push_cost-clause-tells
returns-in_err-push_cost-clause-tells g c from text said = told_before _ _ _ _ _ _ _ c.from_residual.ensures.0 said

pub returns-in_err-push_policy-clause-tells : goal.returns-in_err-push_policy-clause-tells
returns-in_err-push_policy-clause-tells g c from text said = told_before _ _ _ _ _ _ _ c.from_residual-in_err-push_policy.ensures.0 said

pub returns-clause-tells : goal.returns-clause-tells
returns-clause-tells g c from text said =
    told_lines _ _ _ _ _ _ _ _ _ _ _ c.clear.ensures.bytes c.in_ok-push_cost.ensures c.in_ok-push_policy.ensures c.deref.ensures (c.put_line.ensures.tells from text (rw c.self.view_is said))
