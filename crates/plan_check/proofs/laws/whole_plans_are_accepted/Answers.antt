use Rattle.plan_check.proofs.WholePlans.{whole_accepted}
use Rattle.plan_check.proofs.laws.whole_plans_are_accepted.Goals as goal

pub returns : goal.returns
returns c = whole_accepted
