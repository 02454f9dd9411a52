use Rattle.span_top.proofs.LoopLaws.{strange_frames}
use Rattle.span_top.proofs.loop_laws.strange_frames_end_loops.Goals as goal

pub returns : goal.returns
returns c = strange_frames c.strange_frames_are_told.ensures
