use Rattle.std.proofs.Common.{List, ℕ, ◌++◌, ◌∙◌, length, ap, arith}
use Rattle.wire_msg.specs.Frames.{frame_of}
use Rattle.message_wire.specs.declared.framed.Framed.{Framed}
use Rattle.message_wire.proofs.FramedLaws.{longer}
use Rattle.message_wire.proofs.framed.append_frame.Goals as goal

pub write_frame-requires-clause-space : goal.write_frame-requires-clause-space
write_frame-requires-clause-space c = omega (arith, ap length c.in_ok-frame.ensures.taken.none, c.in_ok-frame.ensures.taken.room, c.frame_len-len.ensures.size, c.frame_len-len.ensures.limit)

pub returns-clause-ok : goal.returns-clause-ok
returns-clause-ok c =
    let framed : Framed = record { to = c.args.to; frame = c.write_frame.new.out } in
    longer c.args.frames.now.items c.push.new.self.items framed c.args.message.now c.requires.whole c.requires.lawful c.write_frame.ensures.fits
    (c.write_frame.ensures.adds.0 ∙ ap (λ (bytes : List ℕ). bytes ++ frame_of c.args.message.now) c.in_ok-frame.ensures.taken.none)
    (cc (c.in_ok-push.ensures.items))
