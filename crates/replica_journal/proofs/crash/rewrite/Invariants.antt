use Rattle.std.proofs.Common.{◌≡◌, ◌≤◌, length, take, vec_capacity}
use Rattle.replica_journal.specs.Disk.{bytes_of}
use Rattle.replica_journal.specs.Memory.{history_of}
use Rattle.replica_journal.proofs.crash.rewrite.Given as goal

abbrev pub invariant-loop-write : goal.invariant-loop-write
invariant-loop-write l = record {
  bytes : l.bytes.items ≡ bytes_of (history_of (take l.write-index l.writes));
  space : length (bytes_of (history_of l.writes)) ≤ vec_capacity l.bytes;
}
