use Rattle.placement_relay.proofs.EventualSets.{least}
use Rattle.placement_relay.proofs.laws.least_choices_are_least_policies.Goals as goal

pub returns : goal.returns
returns c = least
