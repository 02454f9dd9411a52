use Rattle.placement.proofs.Modes.{placing}
use Rattle.placement.proofs.laws.allowed_policies_are_placed.Goals as goal

pub returns : goal.returns
returns c = placing
