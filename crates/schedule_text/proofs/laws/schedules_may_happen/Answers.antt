use Rattle.schedule_text.proofs.Happening.{schedules_may}
use Rattle.schedule_text.proofs.laws.schedules_may_happen.Goals as goal

pub returns : goal.returns
returns c = schedules_may
