use Rattle.epoch_directory.proofs.LeastFault.{IsRightBelow}
use Rattle.epoch_directory.proofs.directory.Directory.table_fault.Given as goal

abbrev pub invariant-loop-number : goal.invariant-loop-number
invariant-loop-number l = IsRightBelow l.self l.table l.number
