-- What checking a joint plan answers, and what it writes.
use Rattle.std.specs.Prelude.{◌≡◌, ℕ, ◌+◌, ◌≤◌, ◌⊎◌, List, [], ◌++◌, codes, length, Option, Some, None, Result, Ok, Err}
use Rattle.std.specs.Fmt.{decimal}
use Rattle.span_base.specs.Files.{Files}
use Rattle.span_base.specs.Taken.{Appends}
use Rattle.sink_buffer.specs.Said.{IsFrontTaken}
use Rattle.zero_one.specs.Program.{IsWithinLimits}
use Rattle.zero_one.specs.Faults.{IsPastLimit}
use Rattle.bound_cert.specs.declared.leaves.Line.{Line}
use Rattle.bound_cert.specs.declared.leaves.Goal.TheVariants as goal
use Rattle.bound_cert.specs.Trees.{IsProof}
use Rattle.shelf_lines.specs.Lines.{IsFile, fed}
use Rattle.workload.specs.World.{Lists}
use Rattle.machine_text.specs.Machines.{Fleet}
use Rattle.joint_placement.specs.Variables.{joint_costs}
use Rattle.joint_placement.specs.Programs.{joint_rows, joint_program}
use Rattle.plan_text.specs.PlanText.{cost_line}
use Rattle.plan_check.specs.declared.fault.CheckFault.{CheckFault}
use Rattle.plan_check.specs.declared.fault.CheckFault.TheVariants as check_fault
use Rattle.plan_check.specs.declared.fault.CheckFault.TheVariants.{NoMemory}
use Rattle.plan_check.specs.declared.lines.PlanLines.{PlanLines}
use Rattle.plan_check.specs.Reading.{HasRead, Ends, line_count}
use Rattle.plan_check.specs.Places.{StopsAmong, Meets}
use Rattle.plan_check.specs.Plans.{IsWanting}
use Rattle.joint_plan.specs.Endings.{Ending, complete, none_there, cut_off}
use Rattle.joint_plan.specs.JointText.{joint_line, opening_text, begun_text, ending_text, joint_text}
use Rattle.joint_plan.specs.Shown.{IsAccepted, IsTrueOf}
use Rattle.joint_plan.specs.Lines.{ReadsExact, RefusesForm, RefusesProgram}
use Rattle.joint_plan.specs.Stops.{StopsInPlan}
use Rattle.joint_plan.specs.declared.fault.JointCheckFault.{JointCheckFault}
use Rattle.joint_plan.specs.declared.fault.JointCheckFault.TheVariants.{Limit, Check}

-- the file ends with its last line
abbrev pub ReadsLast : Option Files → List ℕ → List ℕ → Result (Unit {0}) CheckFault → Type 0
ReadsLast files name front (Ok done) = IsFile files name (front ++ codes "end\n") × (length (front ++ codes "end\n") ≤ 4294967295)
ReadsLast files name front (Err fault) =
    Meets files name front (λ line told. (¬ (fed line ≡ codes "end\n")) × RefusesForm (line_count front + 1) line told) fault
    ⊎ Ends files name (front ++ codes "end\n") (Err fault)

-- the lines before the tree
abbrev pub opening_of : Lists → Fleet → List ℕ
opening_of w fleet = opening_text (length (joint_program w fleet).costs)

-- the text up to a plan's policies
abbrev pub plan_front : Lists → Fleet → List Line → ℕ → List ℕ
plan_front w fleet lines cost = begun_text w fleet lines ++ cost_line cost

-- why a check stops: at the first lines, in the tree, in the plan, at the last line
pub data StopsJoint (w : Lists) (fleet : Fleet) (files : Option Files) (name : List ℕ) (fault : CheckFault) : Type 0 where
  at_begin : (reader : PlanLines) → ReadsExact files name [] (codes "span-joint 1\n") RefusesForm reader (Err fault) → StopsJoint w fleet files name fault
  at_joint : (reader : PlanLines) → ReadsExact files name (codes "span-joint 1\n") (joint_line (length (joint_program w fleet).costs)) RefusesProgram reader (Err fault) → StopsJoint w fleet files name fault
  in_tree : (lines : List Line) → StopsAmong (joint_program w fleet) files name (opening_of w fleet) lines fault → StopsJoint w fleet files name fault
  in_plan : (lines : List Line) (cost : ℕ) → IsProof (joint_program w fleet) lines (goal.Cost cost)
      → StopsInPlan w fleet files name (plan_front w fleet lines cost) cost (line_count (begun_text w fleet lines) + 1) fault → StopsJoint w fleet files name fault
  at_last : (lines : List Line) (ending : Ending) → IsAccepted w fleet lines ending
      → ReadsLast files name (begun_text w fleet lines ++ ending_text w (length lines) ending) (Err fault) → StopsJoint w fleet files name fault

-- an accepted joint plan within its limit, which is true
pub record IsChecked (w : Lists) (fleet : Fleet) (files : Option Files) (name : List ℕ) (lines : List Line) (ending : Ending) : Type 0 where
  pub limits : IsWithinLimits (joint_program w fleet)
  pub file : IsFile files name (joint_text w fleet lines ending)
  pub few : length (joint_text w fleet lines ending) ≤ 4294967295
  pub accepted : IsAccepted w fleet lines ending
  pub holds : IsTrueOf w fleet ending

-- what is written of it
abbrev pub told_text : Option ℕ → List ℕ
told_text (Some cost) = codes "joint least " ++ decimal cost ++ codes "\njoint ok\n"
told_text None = codes "joint none\njoint ok\n"

abbrev pub told_cost : Ending → Option ℕ
told_cost (complete cost plan) = Some cost
told_cost none_there = None
told_cost (cut_off found) = None

-- what reading the tree and the plan gives, behind the first lines
abbrev pub ReadsBody : Lists → Fleet → Option Files → List ℕ → PlanLines → Result (Option ℕ) CheckFault → Type 0
ReadsBody w fleet files name reader (Ok told) =
    (lines : List Line) × (ending : Ending) × IsAccepted w fleet lines ending × (told ≡ told_cost ending)
    × HasRead files name (begun_text w fleet lines ++ ending_text w (length lines) ending) reader
ReadsBody w fleet files name reader (Err fault) = StopsJoint w fleet files name fault

-- what reading the whole text gives: the cost that it tells to be least, none where it tells that no plan meets capacity
abbrev pub ReadsText : Lists → Fleet → Option Files → List ℕ → Result (Option ℕ) CheckFault → Type 0
ReadsText w fleet files name (Ok told) = (lines : List Line) × (ending : Ending) × IsChecked w fleet files name lines ending × (told ≡ told_cost ending)
ReadsText w fleet files name (Err fault) = StopsJoint w fleet files name fault ⊎ (fault ≡ NoMemory)

-- the sink took both lines of an accepted plan, or nothing; where it failed, or memory lacked, a front of them
abbrev pub ChecksJoint : Lists → Fleet → Option Files → List ℕ → Option (List ℕ) → Option (List ℕ) → Result (Unit {0}) JointCheckFault → Type 0
ChecksJoint w fleet files name from now (Ok done) =
    (lines : List Line) × (ending : Ending) × IsChecked w fleet files name lines ending × Appends from now (told_text (told_cost ending))
ChecksJoint w fleet files name from now (Err (Limit what number)) =
    IsPastLimit (joint_costs w fleet) (joint_rows w fleet) what number × Appends from now []
ChecksJoint w fleet files name from now (Err (Check fault)) =
    (IsWithinLimits (joint_program w fleet) × StopsJoint w fleet files name fault × Appends from now [])
    ⊎ (((fault ≡ NoMemory) × Appends from now [])
    ⊎ (IsWanting fault × ((lines : List Line) × (ending : Ending) × IsChecked w fleet files name lines ending × IsFrontTaken from now (told_text (told_cost ending)))))

-- the fault is that of the shelf, of a file that isn't there, of the sink
abbrev pub IsShelfFault : JointCheckFault → Type 0
IsShelfFault fault = fault ≡ Check check_fault.ReadFault

abbrev pub IsAbsence : JointCheckFault → Type 0
IsAbsence fault = fault ≡ Check check_fault.Absent

abbrev pub IsSinkFault : JointCheckFault → Type 0
IsSinkFault fault = fault ≡ Check check_fault.WriteFault
