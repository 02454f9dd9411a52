use Rattle.wire_msg.proofs.MessageLaws.{comes_back}
use Rattle.wire_msg.proofs.laws.messages_come_back.Goals as goal

pub returns : goal.returns
returns c = comes_back
