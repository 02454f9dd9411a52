use Rattle.restart_law.proofs.Running.{stands_for}
use Rattle.restart_law.proofs.law.restart_runs_are_runs.Goals as goal

pub returns : goal.returns
returns c = stands_for
