use Rattle.replica_journal.proofs.Soundness.{take_sound}
use Rattle.replica_journal.proofs.laws.takes_stay_sound.Goals as goal

pub returns : goal.returns
returns c = take_sound
