use Rattle.log_law.proofs.Runs.{runs_fit_logs, runs_stay_few}
use Rattle.log_law.proofs.law.runs_fit_logs.Goals as goal

pub returns-clause-marks : goal.returns-clause-marks
returns-clause-marks c = runs_fit_logs

pub returns-clause-few : goal.returns-clause-few
returns-clause-few c = runs_stay_few
