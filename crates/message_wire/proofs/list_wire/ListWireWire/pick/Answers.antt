use Rattle.std.proofs.Common.{◌≡◌, ◌<◌, length, get_or, slice_get, ap, ◌∙◌, arith}
use Rattle.message_wire.specs.Sent.{Sent}
use Rattle.message_wire.specs.Frames.{message_in}
use Rattle.message_wire.proofs.FramedLaws.{no_frame_at, frame_at}
use Rattle.message_wire.proofs.list_wire.ListWireWire.pick.Goals as goal

pub returns-in-None : goal.returns-in-None
returns-in-None c =
    no_frame_at c.self.inside.frames.items c.args.n (omega (arith, c.in-None.ensures.lookup.3, ap length c.deref.ensures.value))
    ∙ ap (λ (s : Sent). slice_get s.posts c.args.n) c.self.view_is

pub returns-in_ok-message-in-Some : goal.returns-in_ok-message-in-Some
returns-in_ok-message-in-Some c =
    let frames = c.self.inside.frames.items in
    let framed = c.in-Some.framed.now in
    let within : c.args.n < length frames = omega (arith, c.in-Some.ensures.lookup.3.0, ap length c.deref.ensures.value) in
    let at : framed ≡ get_or frames c.args.n framed = cc (c.in-Some.ensures.lookup.1) in
    let says : c.in_ok-message-in-Some.message ≡ message_in framed.frame.items = cc (c.in_ok-message-in-Some.ensures) in
    frame_at frames c.args.n framed c.in_ok-message-in-Some.message within at says
    ∙ ap (λ (s : Sent). slice_get s.posts c.args.n) c.self.view_is
