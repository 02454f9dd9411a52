use Rattle.placement.proofs.Modes.{none}
use Rattle.placement.proofs.laws.no_choice_is_no_policy.Goals as goal

pub returns : goal.returns
returns c = none
