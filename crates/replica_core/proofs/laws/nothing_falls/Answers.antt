use Rattle.replica_core.proofs.Falling.{step_rises}
use Rattle.replica_core.proofs.laws.nothing_falls.Goals as goal

pub returns : goal.returns
returns c = step_rises
