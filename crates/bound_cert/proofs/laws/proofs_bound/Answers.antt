use Rattle.bound_cert.proofs.Branching.{proof_bounds, proof_refutes}
use Rattle.bound_cert.proofs.laws.proofs_bound.Goals as goal

pub returns-clause-cost : goal.returns-clause-cost
returns-clause-cost c = proof_bounds

pub returns-clause-nothing : goal.returns-clause-nothing
returns-clause-nothing c = proof_refutes
