-- Why a world has no joint program.
use Rattle.std.specs.Prelude.{⊤}
use Rattle.zero_one.specs.Faults.{IsPastLimit}
use Rattle.workload.specs.World.{Lists}
use Rattle.machine_text.specs.Machines.{Fleet}
use Rattle.joint_placement.specs.declared.encoding.JointFault.{JointFault}
use Rattle.joint_placement.specs.declared.encoding.JointFault.TheVariants.{Limit, NoMemory}
use Rattle.joint_placement.specs.Variables.{joint_costs}
use Rattle.joint_placement.specs.Programs.{joint_rows}

-- the program is past a limit: on its variables, else on its rows, else on their weight; or memory
-- lacks
abbrev pub IsRefused : Lists → Fleet → JointFault → Type 0
IsRefused w fleet (Limit what number) = IsPastLimit (joint_costs w fleet) (joint_rows w fleet) what number
IsRefused w fleet (NoMemory e) = ⊤
