use Rattle.placement.proofs.Modes.{decoding}
use Rattle.placement.proofs.laws.feasible_choices_are_decoded.Goals as goal

pub returns : goal.returns
returns c = decoding
