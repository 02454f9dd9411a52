use Rattle.eventual_law.proofs.EpochLaws.{stored_puts_stay}
use Rattle.eventual_law.proofs.law.stored_puts_stay.Goals as goal

pub returns : goal.returns
returns c = stored_puts_stay
