use Rattle.relay_proxy.proofs.routes.parent.Goals as goal

pub returns-in-Relay : goal.returns-in-Relay
returns-in-Relay c = rw c.in-Relay.is (rw c.as_slice.ensures at c.parent_in.ensures)
