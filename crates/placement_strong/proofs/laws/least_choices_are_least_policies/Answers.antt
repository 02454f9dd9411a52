use Rattle.placement_strong.proofs.Choices.{least}
use Rattle.placement_strong.proofs.laws.least_choices_are_least_policies.Goals as goal

pub returns : goal.returns
returns c = least
