use Rattle.world_text.proofs.WorldRead.{world_read}
use Rattle.world_text.proofs.round_trip.printed_worlds_are_read.Goals as goal

pub returns : goal.returns
returns c = world_read
