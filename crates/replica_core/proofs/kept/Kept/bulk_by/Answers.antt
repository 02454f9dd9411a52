use Rattle.replica_core.proofs.kept.Kept.bulk_by.Goals as goal

pub returns-in-Yes : goal.returns-in-Yes
returns-in-Yes c = rw c.in-Yes.is c.done_bulk.ensures
