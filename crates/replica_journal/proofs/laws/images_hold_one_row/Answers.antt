use Rattle.replica_journal.proofs.Rows.{one_row}
use Rattle.replica_journal.proofs.laws.images_hold_one_row.Goals as goal

pub returns : goal.returns
returns c = one_row
