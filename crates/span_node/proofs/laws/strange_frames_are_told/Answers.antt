use Rattle.span_node.proofs.Meeting.{strange_told}
use Rattle.span_node.proofs.laws.strange_frames_are_told.Goals as goal

pub returns : goal.returns
returns c = strange_told
