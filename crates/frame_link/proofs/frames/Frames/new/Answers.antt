use Rattle.frame_link.proofs.RegionLaws.{no_sent}
use Rattle.frame_link.proofs.frames.Frames.new.Goals as goal

pub returns : goal.returns
returns c = no_sent c.new.result.items c.new-2.result.items c.new-2.ensures.items
