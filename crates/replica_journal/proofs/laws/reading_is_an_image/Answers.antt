use Rattle.replica_journal.proofs.Puts.{reading_is_image}
use Rattle.replica_journal.proofs.laws.reading_is_an_image.Goals as goal

pub returns : goal.returns
returns c = reading_is_image
