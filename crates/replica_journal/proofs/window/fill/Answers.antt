use Rattle.std.proofs.Common.{◌-◌, length, refl, false, arith}
use Rattle.std.proofs.lemmas.Grind.{common_steps}
use borrow.Rule.Slice.PartMut.{put_mid, post_of}
use Rattle.replica_journal.proofs.Counted.{counts_on}
use Rattle.replica_journal.proofs.Filling.{filled_more}
use Rattle.replica_journal.proofs.window.fill.Goals as goal

pub loop-filled-preserved : goal.loop-filled-preserved
loop-filled-preserved g c =
    let size = length c.loop-filled.buf - c.loop-filled.filled in
    record {
      within = grind (arith, common_steps);
      filled = filled_more (g.D.Disk.told c.args.disk.now) (g.D.Disk.told c.loop-filled.disk) c.args.at c.loop-filled.filled c.in_ok-count.count c.loop-filled.buf c.read_at.new.buf
          (post_of c.loop-filled.filled size c.loop-filled.buf) (put_mid c.loop-filled.filled size c.loop-filled.buf c.read_at.new.buf)
          c.loop-filled.invariant.stays c.loop-filled.invariant.within c.in_ok-count.ensures.within refl c.in_ok-count.ensures.tells c.loop-filled.invariant.filled;
      stays = grind (arith, common_steps);
      counts = counts_on _ _ _ _ _ _ false c.loop-filled.invariant.counts c.in_ok-count.ensures.counts;
    }
