use Rattle.schedule_text.proofs.KeptPlain.{schedules_are_runs}
use Rattle.schedule_text.proofs.laws.schedules_are_restart_runs.Goals as goal

pub returns : goal.returns
returns c = schedules_are_runs
