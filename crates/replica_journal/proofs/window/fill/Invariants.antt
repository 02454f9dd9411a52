use Rattle.std.proofs.Common.{◌≡◌, ◌≤◌, ◌-◌, length, false}
use Rattle.replica_journal.specs.Counting.{Counts}
use Rattle.replica_journal.proofs.Filling.{IsFilled}
use Rattle.replica_journal.proofs.window.fill.Given as goal

abbrev pub invariant-loop-filled : goal.invariant-loop-filled
invariant-loop-filled g l = record {
  within : l.filled ≤ length l.buf;
  filled : IsFilled (g.D.Disk.told l.initial.disk) l.at l.buf l.filled;
  stays : g.D.Disk.told l.disk ≡ g.D.Disk.told l.initial.disk;
  counts : Counts (g.D.Disk.faults l.initial.disk) (g.D.Disk.faults l.disk) (g.D.Disk.calm l.initial.disk) (g.D.Disk.calm l.disk) false;
}

abbrev pub decreases-loop-filled : goal.decreases-loop-filled
decreases-loop-filled g l = length l.buf - l.filled
