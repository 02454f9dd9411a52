use Rattle.plan_check.proofs.WholePlans.{files_accepted}
use Rattle.plan_check.proofs.laws.plan_files_are_accepted.Goals as goal

pub returns : goal.returns
returns c = files_accepted
