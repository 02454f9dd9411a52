use Rattle.placement_strong.proofs.Choices.{decoding}
use Rattle.placement_strong.proofs.laws.feasible_choices_are_decoded.Goals as goal

pub returns : goal.returns
returns c = decoding
