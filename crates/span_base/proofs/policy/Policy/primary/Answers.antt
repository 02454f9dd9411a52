use Rattle.span_base.proofs.policy.Policy.primary.Goals as goal

pub returns-in-Direct : goal.returns-in-Direct
returns-in-Direct c = rw c.in-Direct.is (rw c.as_slice.ensures at c.find_primary.ensures)

pub returns-in-Relay : goal.returns-in-Relay
returns-in-Relay c = rw c.in-Relay.is (rw c.as_slice-in-Relay.ensures at c.find_primary-in-Relay.ensures)
