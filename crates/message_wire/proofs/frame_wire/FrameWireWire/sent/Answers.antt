use Rattle.std.proofs.Common.{length, ap, arith}
use Rattle.message_wire.specs.Sent.{Sent}
use Rattle.message_wire.proofs.RegionLaws.{posts_count}
use Rattle.message_wire.proofs.frame_wire.FrameWireWire.sent.Goals as goal

pub returns : goal.returns
returns c = omega (arith, posts_count c.self.inside.region.items c.self.inside.entries.items, ap (λ (s : Sent). length s.posts) c.self.view_is)
