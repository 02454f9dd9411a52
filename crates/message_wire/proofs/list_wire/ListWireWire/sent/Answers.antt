use Rattle.std.proofs.Common.{length, ap, arith}
use Rattle.message_wire.specs.Sent.{Sent}
use Rattle.message_wire.proofs.FramedLaws.{posts_number}
use Rattle.message_wire.proofs.list_wire.ListWireWire.sent.Goals as goal

pub returns : goal.returns
returns c = omega (arith, posts_number c.self.inside.frames.items, ap (λ (s : Sent). length s.posts) c.self.view_is)
