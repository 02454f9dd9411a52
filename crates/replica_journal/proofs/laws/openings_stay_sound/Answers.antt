use Rattle.replica_journal.proofs.Soundness.{opening_sound}
use Rattle.replica_journal.proofs.laws.openings_stay_sound.Goals as goal

pub returns : goal.returns
returns c = opening_sound
