use Rattle.replica_journal.proofs.Soundness.{undamaged}
use Rattle.replica_journal.proofs.laws.sound_disks_are_undamaged.Goals as goal

pub returns : goal.returns
returns c = undamaged
