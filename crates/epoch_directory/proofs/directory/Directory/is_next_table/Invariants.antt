use Rattle.epoch_directory.proofs.NextTables.{AreGood}
use Rattle.epoch_directory.proofs.directory.Directory.is_next_table.Given as goal

abbrev pub invariant-loop-place : goal.invariant-loop-place
invariant-loop-place l = AreGood l.self l.table l.place
