use Rattle.plan_check.proofs.Truths.{accepted_true}
use Rattle.plan_check.proofs.laws.accepted_parts_are_true.Goals as goal

pub returns : goal.returns
returns c = accepted_true
