use Rattle.placement_relay.proofs.EventualSets.{placing}
use Rattle.placement_relay.proofs.laws.allowed_policies_are_placed.Goals as goal

pub returns : goal.returns
returns c = placing
