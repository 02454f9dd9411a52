use Rattle.std.proofs.Common.{◌≡◌, ◌<◌, ◌≤◌, ◌-◌, length, false}
use Rattle.replica_journal.specs.Counting.{Counts}
use Rattle.replica_journal.specs.Windows.{IsWindow}
use Rattle.replica_journal.specs.Replaying.{IsReplayedOf}
use Rattle.replica_journal.proofs.replay.replay.Given as goal

abbrev pub invariant-loop-window : goal.invariant-loop-window
invariant-loop-window g l = record {
  window : IsWindow (g.D.Disk.told l.initial.disk) l.window;
  from : l.window.at ≤ l.gate;
  below : l.gate < l.end;
  few : l.records ≤ l.gate;
  stays : g.D.Disk.told l.disk ≡ g.D.Disk.told l.initial.disk;
  counts : Counts (g.D.Disk.faults l.initial.disk) (g.D.Disk.faults l.disk) (g.D.Disk.calm l.initial.disk) (g.D.Disk.calm l.disk) false;
  done : IsReplayedOf (g.D.Disk.told l.initial.disk) l.keys l.initial.replica l.replica l.gate l.records;
  number : l.replica.number ≡ l.initial.replica.number;
  kept : length l.replica.kept ≡ l.keys;
}

abbrev pub decreases-loop-window : goal.decreases-loop-window
decreases-loop-window g l = l.end - l.gate
