use Rattle.world_text.proofs.DocumentRead.{document_read}
use Rattle.world_text.proofs.round_trip.documents_are_read.Goals as goal

pub returns : goal.returns
returns c = document_read
