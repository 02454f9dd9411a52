use Rattle.std.proofs.Common.{[]}
use Rattle.sink_buffer.proofs.Saying.{front_from_said, said_nothing}
use Rattle.joint_plan.proofs.Said.{text_failed, front_of_nothing}
use Rattle.joint_plan.proofs.plan.write_program.Goals as goal

pub returns-in_err-tree-clause-writes : goal.returns-in_err-tree-clause-writes
returns-in_err-tree-clause-writes g c =
    text_failed _ _ _ _ _ [] _ c.from_residual.ensures.0 (front_of_nothing _ _ _) (front_from_said _ _ _ _ (said_nothing _))

pub returns-clause-writes : goal.returns-clause-writes
returns-clause-writes g c = c.write_whole.ensures.writes

pub returns-clause-faults_stay : goal.returns-clause-faults_stay
returns-clause-faults_stay g c = c.write_whole.ensures.faults_stay

pub returns-clause-failed : goal.returns-clause-failed
returns-clause-failed g c = c.write_whole.ensures.failed
