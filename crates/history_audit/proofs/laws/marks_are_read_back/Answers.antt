use Rattle.history_audit.proofs.ReadBack.{marks_are_read_back}
use Rattle.history_audit.proofs.LogBack.{logs_are_read_back}
use Rattle.history_audit.proofs.laws.marks_are_read_back.Goals as goal

pub returns-clause-marks : goal.returns-clause-marks
returns-clause-marks c = marks_are_read_back

pub returns-clause-logs : goal.returns-clause-logs
returns-clause-logs c = logs_are_read_back
