use Rattle.std.proofs.Common.{List, length, ap, arith}
use Rattle.frame_link.specs.Frames.{Sent}
use Rattle.frame_link.proofs.RegionLaws.{sent_number}
use Rattle.frame_link.proofs.frames.Frames.len.Goals as goal

pub returns : goal.returns
returns c = omega (arith, sent_number c.self.inside.region.items c.self.inside.entries.items, ap (λ (sent : List Sent). length sent) c.self.view_is)
