use Rattle.placement_relay.proofs.EventualSets.{decoding}
use Rattle.placement_relay.proofs.laws.feasible_choices_are_decoded.Goals as goal

pub returns : goal.returns
returns c = decoding
