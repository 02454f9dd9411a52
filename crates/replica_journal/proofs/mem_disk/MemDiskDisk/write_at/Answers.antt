use Rattle.std.proofs.Common.{true, false, arith}
use Rattle.std.proofs.lemmas.Grind.{common_steps}
use Rattle.replica_journal.proofs.Counted.{counted_at}
use Rattle.replica_journal.proofs.mem_disk.MemDiskDisk.write_at.Goals as goal

pub returns-then-fails-clause-counts : goal.returns-then-fails-clause-counts
returns-then-fails-clause-counts c =
    counted_at c.args.self.now.calls c.self.inside.calls c.count.new.self true (grind (arith, common_steps)) (grind (arith, common_steps)) (grind (arith, common_steps))

pub returns-clause-counts : goal.returns-clause-counts
returns-clause-counts c =
    counted_at c.args.self.now.calls c.self.inside.calls c.count.new.self false (grind (arith, common_steps)) (grind (arith, common_steps)) (grind (arith, common_steps))
