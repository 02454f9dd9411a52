use Rattle.wire_msg.proofs.MessageLaws.{places}
use Rattle.wire_msg.proofs.laws.faults_have_places.Goals as goal

pub returns : goal.returns
returns c = places
