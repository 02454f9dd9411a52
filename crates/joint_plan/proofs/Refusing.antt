-- Faults of the program and of its text, as those of joint planning.
use Rattle.std.proofs.Common.{ℕ, List, Option, refl}
use Rattle.std.specs.Prelude.{Err, IsErrOf}
use Rattle.span_base.specs.Counts.{Rose}
use Rattle.span_base.proofs.Appending.{Appends-nothing}
use Rattle.zero_one.specs.Program.{IsWithinLimits}
use Rattle.workload.specs.World.{Lists}
use Rattle.machine_text.specs.Machines.{Fleet}
use Rattle.joint_placement.specs.declared.encoding.JointFault.{JointFault as ProgramFault}
use Rattle.joint_placement.specs.declared.encoding.JointFault.TheVariants as program
use Rattle.joint_placement.specs.Programs.{joint_program}
use Rattle.joint_placement.specs.Faults.{IsRefused}
use Rattle.planner.specs.declared.ends.SetEnd.{SetEnd}
use Rattle.planner.specs.declared.ends.PlanFault.{PlanFault}
use Rattle.planner.specs.declared.ends.PlanFault.TheVariants as plan
use Rattle.joint_plan.specs.declared.fault.JointFault.TheVariants.{WriteFault}
use Rattle.joint_plan.specs.Faults.{writing_fault, program_fault}
use Rattle.joint_plan.specs.Writes.{TextWrites, JointWrites}
use Rattle.joint_plan.proofs.Said.{front_of_nothing}

-- there is no program
pub refused : (w : Lists) (fleet : Fleet) (budget : ℕ) (now : Option (List ℕ)) (fault : ProgramFault) → IsRefused w fleet fault → JointWrites w fleet budget now now (Err (program_fault fault))
refused w fleet budget now (program.Limit what number) why = (why, Appends-nothing now)
refused w fleet budget now (program.NoMemory error) why = record { text = _; taken = Appends-nothing now; is = front_of_nothing w fleet budget }

-- its text isn't written whole
pub unwritten : (w : Lists) (fleet : Fleet) (budget : ℕ) (old new : Option (List ℕ)) (fault : PlanFault) → IsWithinLimits (joint_program w fleet) → TextWrites w fleet budget old new (Err fault) → JointWrites w fleet budget old new (Err (writing_fault fault))
unwritten w fleet budget old new plan.WriteFault limits writes = (limits, writes)
unwritten w fleet budget old new plan.NoMemory limits writes = writes

-- the sink failed where it told so
pub sink_failed : (before now : ℕ) (fault : PlanFault) → (IsErrOf {T = SetEnd} (Err fault) plan.WriteFault → Rose before now) → IsErrOf {T = SetEnd} (Err (writing_fault fault)) WriteFault → Rose before now
sink_failed before now plan.WriteFault rose is = rose refl
sink_failed before now plan.NoMemory rose is = cc
