use Rattle.restart_law.proofs.Limited.{steps_are_limited}
use Rattle.restart_law.proofs.law.steps_are_limited.Goals as goal

pub returns : goal.returns
returns c = steps_are_limited
