-- What an accepted part says, and what a check accepts, as laws over all worlds.
use Rattle.std.specs.Prelude.{◌≡◌, ℕ, ◌≤◌, ◌⊎◌, false, List, length, Option, Some, Err}
use Rattle.span_base.specs.Files.{Files, file_of}
use Rattle.plan_text.specs.PlanText.{plan_text}
use Rattle.zero_one.specs.Program.{IsWithinLimits}
use Rattle.workload.specs.World.{Lists, IsComplete, IsNamed}
use Rattle.plan_check.specs.Plans.{ChecksPlan, IsWanting}
use Rattle.placement.specs.Placement.{IsSet, program_of}
use Rattle.plan_text.specs.Parts.{Part, is_cut}
use Rattle.plan_text.specs.Plans.{EachPart, IsAcceptedPart, IsTrueOf, HasFitPolicy, IsWrittenPlan}
use Rattle.plan_check.specs.declared.fault.CheckFault.{CheckFault}
use Rattle.plan_check.specs.declared.fault.CheckFault.TheVariants.{ReadFault}

-- a part that is accepted for a set, whose program keeps the limits, is true of it: its policy is least, or the set has none
abbrev pub AcceptedPartsAreTrue : Type 0
AcceptedPartsAreTrue =
    (w : Lists) (set : ℕ) (part : Part) → IsSet w set → IsWithinLimits (program_of w set) → IsAcceptedPart w set part → IsTrueOf w set part.ending

-- nothing but a fault of the shelf or the sink, or want of memory
abbrev pub IsFailing : CheckFault → Type 0
IsFailing fault = (fault ≡ ReadFault) ⊎ IsWanting fault

-- the named file is the plan of these parts, of at most 4,294,967,295 bytes: one for every set, each accepted, and of a policy whose sets fit
pub record IsPlanFile (w : Lists) (files : Files) (name : List ℕ) (parts : List Part) : Type 0 where
  pub file : file_of name files ≡ Some (plan_text w parts)
  pub few : length (plan_text w parts) ≤ 4294967295
  pub one_each : length parts ≡ length w.sets
  pub accepted : EachPart (IsAcceptedPart w) parts
  pub fits : EachPart (λ set part. HasFitPolicy part.ending) parts

-- a check of such a file fails only as the shelf, the sink or want of memory has it
abbrev pub PlanFilesAreAccepted : Type 0
PlanFilesAreAccepted =
    (w : Lists) → IsComplete w → IsNamed w → (files : Files) (name : List ℕ) (parts : List Part) → IsPlanFile w files name parts
    → (from now : Option (List ℕ)) (fault : CheckFault) → ChecksPlan w (Some files) name from now (Err fault) → IsFailing fault

-- a text is a plan that is written to its end: no part of it is cut off
pub record IsWholePlan (w : Lists) (budget : ℕ) (text : List ℕ) : Type 0 where
  pub parts : List Part
  pub written : IsWrittenPlan w budget text parts
  pub uncut : EachPart (λ set part. is_cut part.ending ≡ false) parts

-- a file of at most 4,294,967,295 bytes that is such a plan is one that a check accepts
abbrev pub WholePlansAreAccepted : Type 0
WholePlansAreAccepted =
    (w : Lists) (budget : ℕ) (text : List ℕ) → (plan : IsWholePlan w budget text) → length text ≤ 4294967295
    → (files : Files) (name : List ℕ) → file_of name files ≡ Some text → IsPlanFile w files name plan.parts
