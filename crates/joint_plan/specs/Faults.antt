-- Why a joint plan isn't written whole.
use Rattle.planner.specs.declared.ends.PlanFault.{PlanFault}
use Rattle.planner.specs.declared.ends.PlanFault.TheVariants as plan
use Rattle.joint_placement.specs.declared.encoding.JointFault.{JointFault as ProgramFault}
use Rattle.joint_placement.specs.declared.encoding.JointFault.TheVariants as program
use Rattle.plan_check.specs.declared.fault.CheckFault.TheVariants as no_plan
use Rattle.joint_plan.specs.declared.fault.JointCheckFault.{JointCheckFault}
use Rattle.joint_plan.specs.declared.fault.JointCheckFault.TheVariants as check
use Rattle.joint_plan.specs.declared.fault.JointFault.{JointFault}
use Rattle.joint_plan.specs.declared.fault.JointFault.TheVariants.{Limit, WriteFault, NoMemory}

-- the fault that one of writing is, and one of the program
abbrev pub writing_fault : PlanFault → JointFault
writing_fault plan.WriteFault = WriteFault
writing_fault plan.NoMemory = NoMemory

abbrev pub program_fault : ProgramFault → JointFault
program_fault (program.Limit what number) = Limit what number
program_fault (program.NoMemory error) = NoMemory

-- and as a fault of checking
abbrev pub limit_fault : ProgramFault → JointCheckFault
limit_fault (program.Limit what number) = check.Limit what number
limit_fault (program.NoMemory error) = check.Check no_plan.NoMemory
