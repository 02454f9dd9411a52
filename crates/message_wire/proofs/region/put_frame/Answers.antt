use Rattle.std.proofs.Common.{refl, arith}
use Rattle.message_wire.specs.declared.region.Entry.{Entry}
use Rattle.message_wire.proofs.RegionLaws.{grown}
use Rattle.message_wire.proofs.region.put_frame.Goals as goal

pub returns-clause-ok : goal.returns-clause-ok
returns-clause-ok c =
    let entry : Entry = record { start = c.len-start.result; len = c.frame_len-len.result; to = c.args.to } in
    grown c.args.region.now.items c.write_frame.new.out.items c.args.entries.now.items c.push.new.self.items entry c.args.to c.args.message.now
    c.requires.sound c.requires.lawful c.write_frame.ensures.fits refl (omega arith) c.frame_len-len.ensures.size c.requires.few
    (cc (c.write_frame.ensures.adds.0)) (c.in_ok-push.ensures.items)
