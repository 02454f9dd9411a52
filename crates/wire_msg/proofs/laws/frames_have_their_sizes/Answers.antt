use Rattle.wire_msg.proofs.SizeLaws.{frame_length}
use Rattle.wire_msg.proofs.laws.frames_have_their_sizes.Goals as goal

pub returns : goal.returns
returns c = frame_length
