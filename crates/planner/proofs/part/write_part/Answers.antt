use Rattle.planner.proofs.Searched.{part_not_begun}
use Rattle.planner.proofs.part.write_part.Goals as goal

pub returns-in_err-tree-clause-part : goal.returns-in_err-tree-clause-part
returns-in_err-tree-clause-part g c from text said = part_not_begun _ _ _ _ _ _ _ _ _ c.from_residual.ensures.0 said

pub returns-clause-part : goal.returns-clause-part
returns-clause-part g c = c.write_searched.ensures.part

pub returns-clause-faults_stay : goal.returns-clause-faults_stay
returns-clause-faults_stay g c = c.write_searched.ensures.faults_stay

pub returns-clause-failed : goal.returns-clause-failed
returns-clause-failed g c = c.write_searched.ensures.failed
