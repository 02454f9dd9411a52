use Rattle.world_text.specs.Written.{text_of}
use Rattle.world_text.proofs.CsvText.{text_says}
use Rattle.world_text.proofs.round_trip.records_are_in_their_text.Goals as goal

pub returns : goal.returns
unfolding text_of
returns c = text_says
