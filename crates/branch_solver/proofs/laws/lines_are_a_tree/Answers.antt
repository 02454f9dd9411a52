use Rattle.branch_solver.proofs.Standing.{searches_are_open, searches_prove}
use Rattle.branch_solver.proofs.laws.lines_are_a_tree.Goals as goal

pub returns-clause-open_prefix : goal.returns-clause-open_prefix
returns-clause-open_prefix c = searches_are_open

pub returns-clause-proof : goal.returns-clause-proof
returns-clause-proof c = searches_prove
