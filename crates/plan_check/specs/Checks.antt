-- What checking a plan answers.
use Rattle.std.specs.Prelude.{◌≡◌, ◌^◌, ℕ, ◌+◌, ◌⊎◌, List, [], ◌∷◌, ◌++◌, codes, length, Option, Some, None, Result, Ok, Err, ◌<◌}
use Rattle.span_base.specs.Files.{Files}
use Rattle.span_base.specs.declared.words.Cause.TheVariants.{Syntax, Set}
use Rattle.bound_cert.specs.declared.leaves.Line.{Line}
use Rattle.workload.specs.World.{Lists}
use Rattle.shelf_lines.specs.Lines.{fed}
use Rattle.plan_text.specs.Parts.{Part, Ending, complete, none_allowed, cut_off}
use Rattle.plan_text.specs.PlanText.{set_line}
use Rattle.plan_text.specs.Plans.{IsAcceptedPart, IsTrueOf}
use Rattle.plan_check.specs.declared.fault.CheckFault.{CheckFault}
use Rattle.plan_check.specs.declared.fault.CheckFault.TheVariants.{Bad, Refused}
use Rattle.plan_check.specs.declared.lines.PlanLines.{PlanLines}
use Rattle.plan_check.specs.Words.{IsSetForm}
use Rattle.plan_check.specs.Reading.{HasRead, line_count}
use Rattle.zero_one.specs.Program.{IsWithinLimits}
use Rattle.placement.specs.Placement.{program_of}
use Rattle.plan_check.specs.Places.{IsReadBack, parts_read, set_read, program_at, Meets, StopsInTree, StopsInPolicy}

-- a line in the place of a set's is of the form of one, or is a plan's last
abbrev pub IsSetOrEnd : List ℕ → Type 0
IsSetOrEnd line = (line ≡ codes "end") ⊎ IsSetForm line

-- another line in the place of a set's is refused as such, or as one of no form that is allowed there
abbrev pub RefusesSet : List ℕ → ℕ → CheckFault → Type 0
RefusesSet line number fault =
    (IsSetOrEnd line × (fault ≡ Refused number Set)) ⊎ ((¬ IsSetOrEnd line) × (fault ≡ Bad number Syntax))

-- the line is another one than the set's, and is refused
pub record IsOtherSet (variables : ℕ) (due : List ℕ) (number : ℕ) (line : List ℕ) (fault : CheckFault) : Type 0 where
  pub few : variables < 2 ^ 64
  pub other : ¬ (fed line ≡ due)
  pub refused : RefusesSet line number fault

-- the line that begins the part of the next set
abbrev pub due_at : Lists → List Part → List ℕ
due_at w parts = set_line w (length parts) (length (program_at w parts).costs)

-- another line is met in the place of the next set's, or none
abbrev pub StopsAtSet : Lists → Option Files → List ℕ → List Part → CheckFault → Type 0
StopsAtSet w files name parts fault =
    Meets files name (parts_read w parts) (IsOtherSet (length (program_at w parts).costs) (due_at w parts) (line_count (parts_read w parts) + 1)) fault

abbrev pub ReadsSet : Lists → Option Files → List ℕ → List Part → PlanLines → Result (Unit {0}) CheckFault → Type 0
ReadsSet w files name parts reader (Ok done) = HasRead files name (set_read w parts) reader
ReadsSet w files name parts reader (Err fault) = StopsAtSet w files name parts fault

-- the check stops in the part of the next set: at its line, in its tree, in its policy
abbrev pub StopsInPart : Lists → Option Files → List ℕ → List Part → CheckFault → Type 0
StopsInPart w files name parts fault =
    StopsAtSet w files name parts fault
    ⊎ (IsWithinLimits (program_at w parts)
    × (((tree : List Line) × StopsInTree w files name parts tree fault)
    ⊎ ((tree : List Line) × (cost : ℕ) × (cost < 10 ^ 38) × StopsInPolicy w files name parts tree cost fault)))

-- the cost that a part tells, none where it tells that there is no policy
abbrev pub told_cost : Ending → Option ℕ
told_cost (complete cost policy) = Some cost
told_cost none_allowed = None
told_cost (cut_off found) = None

-- what was read of an ending: a cost of at most 38 digits, and lines that give back the policy
abbrev pub IsEndingRead : Lists → ℕ → Ending → Type 0
IsEndingRead w set (complete cost policy) = (cost < 10 ^ 38) × IsReadBack w set policy
IsEndingRead w set none_allowed = Unit {0}
IsEndingRead w set (cut_off found) = ⊥

-- a part is accepted for a set, and is true of it: its policy is least, or the set has none
pub record IsShownPart (w : Lists) (set : ℕ) (part : Part) : Type 0 where
  pub accepted : IsAcceptedPart w set part
  pub holds : IsTrueOf w set part.ending
  pub limits : IsWithinLimits (program_of w set)
  pub read : IsEndingRead w set part.ending

-- the part of the next set is accepted, and this is the cost that it tells; or the check stops in it
pub record IsNextPart (w : Lists) (files : Option Files) (name : List ℕ) (parts : List Part) (reader : PlanLines) (cost : Option ℕ) : Type 0 where
  pub part : Part
  pub accepted : IsShownPart w (length parts) part
  pub cost_is : cost ≡ told_cost part.ending
  pub read : HasRead files name (parts_read w (parts ++ part ∷ [])) reader

abbrev pub ReadsPart : Lists → Option Files → List ℕ → List Part → PlanLines → Result (Option ℕ) CheckFault → Type 0
ReadsPart w files name parts reader (Ok cost) = IsNextPart w files name parts reader cost
ReadsPart w files name parts reader (Err fault) = StopsInPart w files name parts fault
