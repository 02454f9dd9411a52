use Rattle.placement_strong.proofs.Choices.{none}
use Rattle.placement_strong.proofs.laws.no_choice_is_no_policy.Goals as goal

pub returns : goal.returns
returns c = none
