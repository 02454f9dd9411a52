use Rattle.log_law.proofs.Logs.{replays_are_read_back, replays_break_nothing}
use Rattle.log_law.proofs.law.replayed_logs_are_read_back.Goals as goal

pub returns-clause-says : goal.returns-clause-says
returns-clause-says c = replays_are_read_back c.schedules_may_happen.ensures c.marks_are_read_back.ensures.logs

pub returns-clause-kept : goal.returns-clause-kept
returns-clause-kept c = replays_break_nothing c.schedules_may_happen.ensures
