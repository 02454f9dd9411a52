use Rattle.std.proofs.Common.{◌≡◌, length}
use Rattle.replica_journal.specs.Memory.{history_of, safe_part}
use Rattle.replica_journal.proofs.crash.drop_unsafe.Given as goal

abbrev pub invariant-loop-last : goal.invariant-loop-last
invariant-loop-last l = safe_part (history_of l.writes.items) ≡ safe_part (history_of l.initial.writes.items)

abbrev pub decreases-loop-last : goal.decreases-loop-last
decreases-loop-last l = length l.writes.items
