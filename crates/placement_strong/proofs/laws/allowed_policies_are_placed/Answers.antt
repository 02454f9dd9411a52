use Rattle.placement_strong.proofs.Choices.{placing}
use Rattle.placement_strong.proofs.laws.allowed_policies_are_placed.Goals as goal

pub returns : goal.returns
returns c = placing
