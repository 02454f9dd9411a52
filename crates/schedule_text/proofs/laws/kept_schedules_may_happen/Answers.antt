use Rattle.schedule_text.proofs.KeptHappening.{kept_schedules_may}
use Rattle.schedule_text.proofs.laws.kept_schedules_may_happen.Goals as goal

pub returns : goal.returns
returns c = kept_schedules_may
