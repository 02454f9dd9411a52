use Rattle.wire_msg.proofs.MessageLaws.{told_apart}
use Rattle.wire_msg.proofs.laws.frames_are_told_apart.Goals as goal

pub returns : goal.returns
returns c = told_apart
