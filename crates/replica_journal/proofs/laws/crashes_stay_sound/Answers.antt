use Rattle.replica_journal.proofs.Soundness.{crash_sound}
use Rattle.replica_journal.proofs.laws.crashes_stay_sound.Goals as goal

pub returns : goal.returns
returns c = crash_sound
