use Rattle.std.proofs.Common.{length, refl, arith}
use Rattle.frame_link.specs.declared.frames.Entry.{Entry}
use Rattle.frame_link.proofs.RegionLaws.{grown}
use Rattle.frame_link.proofs.frames.put_frame.Goals as goal

pub returns-clause-ok : goal.returns-clause-ok
returns-clause-ok c =
    let entry : Entry = record { start = c.len.result; len = length c.args.frame.now; to = c.args.to } in
    grown c.args.region.now.items c.extend_from_slice.new.self.items c.args.frame.now c.args.entries.now.items c.push.new.self.items entry
    c.requires.sound (omega arith) refl c.requires.short c.in_ok-extend_from_slice.ensures.items (cc (c.in_ok-push.ensures.items, c.reserve.ensures.items))
