use Rattle.bound_cert.specs.declared.leaves.Goal.TheVariants.{Nothing}
use Rattle.bound_cert.proofs.Branching.{proof_bounds, proof_refutes}
use Rattle.cert_checker.proofs.Verdicts.{bounded_proof, unbounded_proof}
use Rattle.cert_checker.proofs.laws.checked_lines_bound.Goals as goal

pub returns-clause-cost : goal.returns-clause-cost
returns-clause-cost c = λ program limits lines taken whole cost high.
    proof_bounds program limits lines cost (bounded_proof program cost lines taken whole high)

pub returns-clause-nothing : goal.returns-clause-nothing
returns-clause-nothing c = λ program limits lines taken whole none.
    proof_refutes program limits lines (unbounded_proof program Nothing lines taken whole none)
