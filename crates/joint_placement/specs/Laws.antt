-- How joint plans and the choices of the joint program stand for one another.
use Rattle.std.specs.Prelude.{◌≡◌, ◌≤◌, Bool, List}
use Rattle.zero_one.specs.Program.{IsFeasible, value_of}
use Rattle.workload.specs.World.{Lists}
use Rattle.machine_text.specs.Machines.{Fleet}
use Rattle.joint_placement.specs.JointPlans.{JointPlan, IsJointPlan, MeetsCapacity, joint_cost}
use Rattle.joint_placement.specs.Programs.{joint_program}
use Rattle.joint_placement.specs.Placed.{placed, decoded}

-- the choice that a plan is meets the program, and its value is the plan's cost
pub record IsPlaced (w : Lists) (fleet : Fleet) (plan : JointPlan) : Type 0 where
  pub feasible : IsFeasible (joint_program w fleet) (placed w fleet plan)
  pub value : value_of (joint_program w fleet).costs (placed w fleet plan) ≡ joint_cost w fleet plan

-- the plan that a choice is meets capacity, and costs at most the choice's value
pub record IsDecoded (w : Lists) (fleet : Fleet) (x : List Bool) : Type 0 where
  pub plan : IsJointPlan w fleet (decoded w fleet x)
  pub capacity : MeetsCapacity w fleet (decoded w fleet x)
  pub cost : joint_cost w fleet (decoded w fleet x) ≤ value_of (joint_program w fleet).costs x

-- a choice is least for the program: it meets it, and every choice that does has at least its value
pub record IsLeastChoice (w : Lists) (fleet : Fleet) (x : List Bool) : Type 0 where
  pub feasible : IsFeasible (joint_program w fleet) x
  pub least : (y : List Bool) → IsFeasible (joint_program w fleet) y → value_of (joint_program w fleet).costs x ≤ value_of (joint_program w fleet).costs y
