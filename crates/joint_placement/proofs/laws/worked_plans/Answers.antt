use Rattle.std.proofs.Common.{refl}
use Rattle.span_base.specs.DcSet.{centres_of, centres_below}
use Rattle.slo_rules.specs.Cost.{policy_cost}
use Rattle.joint_placement.specs.JointPlans.{joint_cost}
use Rattle.joint_placement.proofs.laws.worked_plans.Goals as goal

pub returns-clause-load_of_x : goal.returns-clause-load_of_x
returns-clause-load_of_x c = refl

pub returns-clause-load_of_y : goal.returns-clause-load_of_y
returns-clause-load_of_y c = refl

pub returns-clause-load_in_fives : goal.returns-clause-load_in_fives
returns-clause-load_in_fives c = refl

pub returns-clause-cost_in_x : goal.returns-clause-cost_in_x
unfolding joint_cost policy_cost centres_of centres_below
returns-clause-cost_in_x c = refl

pub returns-clause-cost_in_y : goal.returns-clause-cost_in_y
unfolding joint_cost policy_cost centres_of centres_below
returns-clause-cost_in_y c = refl

pub returns-clause-small_in_y : goal.returns-clause-small_in_y
unfolding joint_cost policy_cost centres_of centres_below
returns-clause-small_in_y c = refl
