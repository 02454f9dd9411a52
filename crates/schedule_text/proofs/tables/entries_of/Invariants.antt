use Rattle.std.proofs.Common.{◌≡◌, [], ◌∷◌, length, Ok}
use Rattle.schedule_text.specs.Pieces.{entry, beyond}
use Rattle.schedule_text.specs.Tables.{entries_from}
use Rattle.schedule_text.proofs.tables.entries_of.Given as goal

abbrev pub invariant-loop-table : goal.invariant-loop-table
invariant-loop-table l =
    entries_from l.setting l.table (entry l.words ∷ beyond l.words) ≡ entries_from l.setting (Ok []) (entry l.fn.words ∷ beyond l.fn.words)

abbrev pub decreases-loop-table : goal.decreases-loop-table
decreases-loop-table l = length (beyond l.words)
