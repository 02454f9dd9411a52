-- How a joint plan ends.
use Rattle.std.specs.Prelude.{ℕ, Option, Some, None}
use Rattle.bound_cert.specs.declared.leaves.Goal.{Goal}
use Rattle.bound_cert.specs.declared.leaves.Goal.TheVariants.{Cost, Nothing}
use Rattle.workload.specs.World.{Lists}
use Rattle.machine_text.specs.Machines.{Fleet}
use Rattle.joint_placement.specs.JointPlans.{JointPlan, joint_cost}
use Rattle.joint_placement.specs.Placed.{decoded}
use Rattle.branch_solver.specs.Best.{Best}
use Rattle.planner.specs.declared.ends.SetEnd.{SetEnd}
use Rattle.planner.specs.declared.ends.SetEnd.TheVariants as set_end

-- a joint plan and what it costs
pub record Priced : Type 0 where
  pub cost : ℕ
  pub plan : JointPlan

-- with the least joint plan and the cost; because none meets capacity; or cut off at a number of
-- lines, with the best joint plan found so far, if there is one
pub data Ending : Type 0 where
  complete : ℕ → JointPlan → Ending
  none_there : Ending
  cut_off : Option Priced → Ending

-- the cost of a joint plan that was found, if one was
abbrev pub cost_of : Option Priced → Option ℕ
cost_of None = None
cost_of (Some found) = Some found.cost

-- what the leaves of the tree have to show
abbrev pub goal_of : Ending → Goal
goal_of (complete cost plan) = Cost cost
goal_of none_there = Nothing
goal_of (cut_off None) = Nothing
goal_of (cut_off (Some found)) = Cost found.cost

-- what planning answers that ends so
abbrev pub end_of : Ending → SetEnd
end_of (complete cost plan) = set_end.Complete cost
end_of none_there = set_end.NoPolicy
end_of (cut_off found) = set_end.Budget (cost_of found)

-- the joint plan that the best choice of the joint program is, with its cost
abbrev pub found_of : Lists → Fleet → Option Best → Option Priced
found_of w fleet None = None
found_of w fleet (Some best) = Some (record { cost = joint_cost w fleet (decoded w fleet best.x); plan = decoded w fleet best.x })
