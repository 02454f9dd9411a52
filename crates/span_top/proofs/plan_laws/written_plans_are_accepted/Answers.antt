use Rattle.span_top.proofs.Accepting.{plans_accepted}
use Rattle.span_top.proofs.plan_laws.written_plans_are_accepted.Goals as goal

pub returns : goal.returns
returns c = plans_accepted
