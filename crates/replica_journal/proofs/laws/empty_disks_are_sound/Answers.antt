use Rattle.replica_journal.proofs.Soundness.{empty_sound}
use Rattle.replica_journal.proofs.laws.empty_disks_are_sound.Goals as goal

pub returns : goal.returns
returns c = empty_sound
