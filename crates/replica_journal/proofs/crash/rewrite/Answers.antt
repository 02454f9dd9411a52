use Rattle.std.proofs.Common.{length, ap, sym, ◌∙◌, arith}
use Rattle.replica_journal.specs.Disk.{put}
use Rattle.replica_journal.proofs.Crashes.{next_write}
use Rattle.replica_journal.proofs.crash.rewrite.Goals as goal

pub write_over-requires-clause-within : goal.write_over-requires-clause-within
write_over-requires-clause-within c =
    let next = next_write c.args.writes.now c.loop-write.write-index c.write-item.result c.requires.lawful c.loop-write-test.true c.write-item.is in
    omega (arith, next.within, ap length c.loop-write.invariant.bytes)

pub write_over-requires-clause-space : goal.write_over-requires-clause-space
write_over-requires-clause-space c =
    let next = next_write c.args.writes.now c.loop-write.write-index c.write-item.result c.requires.lawful c.loop-write-test.true c.write-item.is in
    omega (arith, next.fits, ap length c.as_slice.ensures, c.loop-write.invariant.space)

pub loop-write-preserved : goal.loop-write-preserved
loop-write-preserved c =
    let next = next_write c.args.writes.now c.loop-write.write-index c.write-item.result c.requires.lawful c.loop-write-test.true c.write-item.is in
    record {
      bytes =
          c.write_over.ensures.put
          ∙ ap (λ b. put b c.write-item.result.at c.as_slice.result.now) c.loop-write.invariant.bytes
          ∙ ap (put _ c.write-item.result.at) c.as_slice.ensures
          ∙ sym next.bytes;
      space = omega (arith, c.write_over.ensures.room, c.loop-write.invariant.space);
    }
