-- What makes a text a joint plan: one that shows what it says, or one cut off at a budget of lines.
use Rattle.std.specs.Prelude.{◌≡◌, ℕ, ◌+◌, ◌-◌, ◌^◌, ◌<◌, ◌≤◌, ◌⊎◌, ◌++◌, List, length, All, Option, Some, None}
use Rattle.zero_one.specs.Program.{IsWithinLimits}
use Rattle.bound_cert.specs.declared.leaves.Line.{Line}
use Rattle.bound_cert.specs.Trees.{IsProof, IsOpenPrefix}
use Rattle.workload.specs.World.{Lists}
use Rattle.slo_rules.specs.PolicyLaws.{HasFitSets}
use Rattle.machine_text.specs.Machines.{Fleet}
use Rattle.joint_placement.specs.JointPlans.{JointPlan, IsJointPlan, MeetsCapacity, IsLeastJoint, HasNoJointPlan, joint_cost}
use Rattle.joint_placement.specs.Programs.{joint_program}
use Rattle.planner.specs.declared.ends.SetEnd.{SetEnd}
use Rattle.joint_plan.specs.Endings.{Priced, Ending, complete, none_there, cut_off, goal_of, end_of}
use Rattle.joint_plan.specs.JointText.{begun_text, joint_text}

-- the sets of a plan's policies have no centres but the 16 that there can be
abbrev pub HasFitPolicies : JointPlan → Type 0
HasFitPolicies plan = All HasFitSets plan.policies

-- the plan meets capacity, and costs as much as is said
pub record IsPriced (w : Lists) (fleet : Fleet) (cost : ℕ) (plan : JointPlan) : Type 0 where
  pub joint : IsJointPlan w fleet plan
  pub capacity : MeetsCapacity w fleet plan
  pub costs : joint_cost w fleet plan ≡ cost

-- if a plan was found, it meets capacity, and costs as much as is said
abbrev pub FitsFound : Lists → Fleet → Option Priced → Type 0
FitsFound w fleet None = Unit {0}
FitsFound w fleet (Some found) = IsPriced w fleet found.cost found.plan

-- the lines are a proof of what the ending says, whose plan meets capacity and costs what is said
abbrev pub FitsEnding : Lists → Fleet → Ending → Type 0
FitsEnding w fleet (complete cost plan) = IsPriced w fleet cost plan
FitsEnding w fleet none_there = Unit {0}
FitsEnding w fleet (cut_off found) = ⊥

pub record IsAccepted (w : Lists) (fleet : Fleet) (lines : List Line) (ending : Ending) : Type 0 where
  pub shown : IsProof (joint_program w fleet) lines (goal_of ending)
  pub fits : FitsEnding w fleet ending

-- an ending is true: its plan is least, or none meets capacity; one cut off says nothing
abbrev pub IsTrueOf : Lists → Fleet → Ending → Type 0
IsTrueOf w fleet (complete cost plan) = IsLeastJoint w fleet plan
IsTrueOf w fleet none_there = HasNoJointPlan w fleet
IsTrueOf w fleet (cut_off found) = Unit {0}

abbrev pub HasFitEnding : Ending → Type 0
HasFitEnding (complete cost plan) = HasFitPolicies plan
HasFitEnding none_there = Unit {0}
HasFitEnding (cut_off found) = Unit {0}

-- the text goes to its end within a budget of lines: it is accepted and true
pub record IsWhole (w : Lists) (fleet : Fleet) (budget : ℕ) (lines : List Line) (ending : Ending) : Type 0 where
  pub accepted : IsAccepted w fleet lines ending
  pub holds : IsTrueOf w fleet ending
  pub fits : HasFitEnding ending
  pub within : length lines ≤ budget

-- it is cut off at a budget: it has just so many lines, of a tree that goes on and may be larger than
-- the budget, and its leaves close against the cost of the best plan found
pub record IsCut (w : Lists) (fleet : Fleet) (budget : ℕ) (lines : List Line) (ending : Ending) : Type 0 where
  pub found : Option Priced
  pub is : ending ≡ cut_off found
  pub fits : FitsFound w fleet found
  pub full : length lines ≡ budget
  pub open_prefix : IsOpenPrefix (joint_program w fleet) lines (goal_of ending)
  pub small : budget < 2 ^ (length (joint_program w fleet).costs + 1) - 1

-- a text is written for a budget of lines, and planning ends so
pub record IsWritten (w : Lists) (fleet : Fleet) (budget : ℕ) (end : SetEnd) (text : List ℕ) : Type 0 where
  pub lines : List Line
  pub ending : Ending
  pub text_is : text ≡ joint_text w fleet lines ending
  pub limits : IsWithinLimits (joint_program w fleet)
  pub shown : IsWhole w fleet budget lines ending ⊎ IsCut w fleet budget lines ending
  pub told : end ≡ end_of ending

-- a text is begun so: the lines of its tree are within the budget, and go on or are whole against
-- the cost of a plan that meets capacity, or against nothing
pub record IsBegun (w : Lists) (fleet : Fleet) (budget : ℕ) (lines : List Line) : Type 0 where
  pub found : Option Priced
  pub fits : FitsFound w fleet found
  pub within : length lines ≤ budget
  pub shown : IsOpenPrefix (joint_program w fleet) lines (goal_of (cut_off found)) ⊎ IsProof (joint_program w fleet) lines (goal_of (cut_off found))

-- bytes are the front of a text that is begun, or of a whole one
abbrev pub IsFront : Lists → Fleet → ℕ → List ℕ → Type 0
IsFront w fleet budget front =
    ((lines : List Line) × IsBegun w fleet budget lines × ((rest : List ℕ) × (front ++ rest ≡ begun_text w fleet lines)))
    ⊎ ((end : SetEnd) × (rest : List ℕ) × IsWritten w fleet budget end (front ++ rest))
