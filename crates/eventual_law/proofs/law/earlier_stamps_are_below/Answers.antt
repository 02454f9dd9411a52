use Rattle.eventual_law.proofs.EpochLaws.{earlier_stamps_are_below}
use Rattle.eventual_law.proofs.law.earlier_stamps_are_below.Goals as goal

pub returns : goal.returns
returns c = earlier_stamps_are_below
