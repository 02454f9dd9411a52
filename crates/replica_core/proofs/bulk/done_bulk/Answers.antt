use Rattle.replica_core.proofs.bulk.done_bulk.Goals as goal

pub returns-in-Push : goal.returns-in-Push
returns-in-Push c = rw c.in-Push.is (λ number. c.push_bulk.ensures number c.in-Push.tag c.in-Push.key c.in-Push.stamp)
