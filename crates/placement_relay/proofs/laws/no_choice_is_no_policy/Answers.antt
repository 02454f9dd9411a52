use Rattle.placement_relay.proofs.EventualSets.{none}
use Rattle.placement_relay.proofs.laws.no_choice_is_no_policy.Goals as goal

pub returns : goal.returns
returns c = none
