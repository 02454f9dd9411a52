use Rattle.std.proofs.Common.{◌≡◌, ◌<◌, length, get_or, slice_get, ap, ◌∙◌, arith}
use Rattle.message_wire.specs.Sent.{Sent}
use Rattle.message_wire.specs.Frames.{message_in}
use Rattle.message_wire.specs.Region.{frame_in}
use Rattle.message_wire.proofs.RegionLaws.{none_at, found_at}
use Rattle.message_wire.proofs.frame_wire.FrameWireWire.pick.Goals as goal

pub returns-in-None : goal.returns-in-None
returns-in-None c =
    none_at c.self.inside.region.items c.self.inside.entries.items c.args.n (omega (arith, c.in-None.ensures.lookup.3, ap length c.deref.ensures.value))
    ∙ ap (λ (s : Sent). slice_get s.posts c.args.n) c.self.view_is

pub returns-in_ok-message-in-Some : goal.returns-in_ok-message-in-Some
returns-in_ok-message-in-Some c =
    let entries = c.self.inside.entries.items in
    let entry = c.in-Some.entry.now in
    let within : c.args.n < length entries = omega (arith, c.in-Some.ensures.lookup.3.0, ap length c.deref.ensures.value) in
    let at : entry ≡ get_or entries c.args.n entry = cc (c.in-Some.ensures.lookup.1) in
    let says : c.in_ok-message-in-Some.message ≡ message_in (frame_in c.self.inside.region.items entry) = cc (c.in_ok-message-in-Some.ensures) in
    found_at c.self.inside.region.items entries c.args.n entry c.in_ok-message-in-Some.message within at says
    ∙ ap (λ (s : Sent). slice_get s.posts c.args.n) c.self.view_is
