use Rattle.replica_journal.proofs.Rows.{no_damage}
use Rattle.replica_journal.proofs.laws.sound_images_are_undamaged.Goals as goal

pub returns : goal.returns
returns c = no_damage
