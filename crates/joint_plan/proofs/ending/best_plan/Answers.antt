use Rattle.joint_plan.proofs.Ends.{names_all, cost_fits}
use Rattle.joint_plan.proofs.ending.best_plan.Goals as goal

pub returns-in_ok-decode_joint-in-Some-clause-names : goal.returns-in_ok-decode_joint-in-Some-clause-names
returns-in_ok-decode_joint-in-Some-clause-names c = names_all _ _ _ c.centre_count-centres.ensures.complete c.in_ok-decode_joint-in-Some.ensures.joint

pub returns-in_ok-decode_joint-in-Some-clause-small : goal.returns-in_ok-decode_joint-in-Some-clause-small
returns-in_ok-decode_joint-in-Some-clause-small c = cost_fits _ _ _ _ c.requires.limits c.in_ok-decode_joint-in-Some.ensures.cost
