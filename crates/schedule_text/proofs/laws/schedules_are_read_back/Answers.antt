use Rattle.schedule_text.proofs.SchedulesBack.{schedules_are_read_back}
use Rattle.schedule_text.proofs.laws.schedules_are_read_back.Goals as goal

pub returns : goal.returns
returns c = schedules_are_read_back
