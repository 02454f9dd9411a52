use Rattle.placement.proofs.Modes.{least}
use Rattle.placement.proofs.laws.least_choices_are_least_policies.Goals as goal

pub returns : goal.returns
returns c = least
