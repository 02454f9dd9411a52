-- What joint planning writes to a sink.
use Rattle.std.specs.Prelude.{◌≡◌, ℕ, ◌⊎◌, List, [], ◌++◌, length, Option, Result, Ok, Err}
use Rattle.span_base.specs.Taken.{Appends}
use Rattle.sink_buffer.specs.Said.{IsSaid, IsFrontTaken}
use Rattle.zero_one.specs.Contents.{Contents}
use Rattle.zero_one.specs.Program.{IsWithinLimits}
use Rattle.zero_one.specs.Faults.{IsPastLimit}
use Rattle.bound_cert.specs.declared.leaves.Line.{Line}
use Rattle.branch_solver.specs.declared.progress.Progress.{Progress}
use Rattle.branch_solver.specs.Kept.{Kept, StandsFor}
use Rattle.workload.specs.World.{Lists}
use Rattle.machine_text.specs.Machines.{Fleet}
use Rattle.joint_placement.specs.Variables.{joint_costs}
use Rattle.joint_placement.specs.Programs.{joint_rows, joint_program}
use Rattle.planner.specs.declared.ends.SetEnd.{SetEnd}
use Rattle.planner.specs.declared.ends.PlanFault.{PlanFault}
use Rattle.planner.specs.Writes.{TakesText}
use Rattle.planner.specs.Trees.{EndsSearch}
use Rattle.joint_plan.specs.Endings.{Ending, end_of}
use Rattle.joint_plan.specs.JointText.{ending_text}
use Rattle.joint_plan.specs.Shown.{IsWhole, IsCut, IsWritten, IsFront}
use Rattle.joint_plan.specs.declared.fault.JointFault.{JointFault}
use Rattle.joint_plan.specs.declared.fault.JointFault.TheVariants.{Limit, WriteFault, NoMemory}

-- what joint planning writes, by how it ends: a program past a limit is refused before anything is written
abbrev pub JointWrites : Lists → Fleet → ℕ → Option (List ℕ) → Option (List ℕ) → Result SetEnd JointFault → Type 0
JointWrites w fleet budget old new (Ok end) = TakesText old new (IsWritten w fleet budget end)
JointWrites w fleet budget old new (Err (Limit what number)) =
    IsPastLimit (joint_costs w fleet) (joint_rows w fleet) what number × Appends old new []
JointWrites w fleet budget old new (Err WriteFault) = IsWithinLimits (joint_program w fleet) × TakesText old new (IsFront w fleet budget)
JointWrites w fleet budget old new (Err NoMemory) = TakesText old new (IsFront w fleet budget)

-- what writing its text writes, by how it ends
abbrev pub TextWrites : Lists → Fleet → ℕ → Option (List ℕ) → Option (List ℕ) → Result SetEnd PlanFault → Type 0
TextWrites w fleet budget old new (Ok end) = TakesText old new (IsWritten w fleet budget end)
TextWrites w fleet budget old new (Err fault) = TakesText old new (IsFront w fleet budget)

-- the text is said, or a front of it was taken
abbrev pub SaysJoint : Lists → Fleet → ℕ → Option (List ℕ) → Option (List ℕ) → List ℕ → Result SetEnd PlanFault → Type 0
SaysJoint w fleet budget from now kept (Ok end) = (text : List ℕ) × IsWritten w fleet budget end text × IsSaid from now kept text
SaysJoint w fleet budget from now kept (Err fault) = (text : List ℕ) × IsFront w fleet budget text × IsFrontTaken from now text

-- a search of the joint program, for a budget of lines, ended so
pub record IsSearched (program : Contents) (budget : ℕ) (kept : Kept) (end : Progress) : Type 0 where
  pub limits : IsWithinLimits program
  pub lines : List Line
  pub stands : StandsFor program lines kept
  pub same : kept.budget ≡ budget
  pub ends : EndsSearch program lines kept end

-- behind a tree of so many lines this ending is written, and planning ends so
pub record AddsEnding (w : Lists) (lines : ℕ) (ending : Ending) (end : SetEnd) (old new : List ℕ) : Type 0 where
  pub told : end ≡ end_of ending
  pub text_is : new ≡ old ++ ending_text w lines ending

-- behind a tree of these lines an ending is written that they show, and planning ends so
pub record EndsSo (w : Lists) (fleet : Fleet) (budget : ℕ) (lines : List Line) (end : SetEnd) (old new : List ℕ) : Type 0 where
  pub ending : Ending
  pub shown : IsWhole w fleet budget lines ending ⊎ IsCut w fleet budget lines ending
  pub adds : AddsEnding w (length lines) ending end old new
