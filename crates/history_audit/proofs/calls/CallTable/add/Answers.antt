use Rattle.history_audit.proofs.calls.CallTable.add.Goals as goal

pub returns-in-Ok : goal.returns-in-Ok
returns-in-Ok c = λ other. c.in-Ok.ensures.updates.0 (other.proxy, other.seq)
