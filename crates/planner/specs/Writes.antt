-- What planning writes to a sink.
use Rattle.std.specs.Prelude.{◌≡◌, ℕ, ◌≤◌, ◌⊎◌, ◌++◌, List, length, Option, Result, Ok, Err, MatchResult}
use Rattle.bound_cert.specs.declared.leaves.Line.{Line}
use Rattle.bound_cert.specs.Trees.{IsProof, IsOpenPrefix}
use Rattle.span_base.specs.Taken.{Appends}
use Rattle.sink_buffer.specs.Said.{IsSaid, IsFrontTaken}
use Rattle.workload.specs.World.{Lists}
use Rattle.placement.specs.Placement.{program_of}
use Rattle.plan_text.specs.Parts.{Priced, Part, cut_off}
use Rattle.plan_text.specs.PlanText.{begun_text, part_text}
use Rattle.plan_text.specs.Plans.{goal_of, FitsFound, IsWrittenPart, IsTrueOf, IsLeastPlan, IsPlanWithout, IsPlanCut, IsPlanFront}
use Rattle.planner.specs.Ends.{set_end_of}
use Rattle.planner.specs.declared.ends.SetEnd.{SetEnd}
use Rattle.planner.specs.declared.ends.PlanEnd.{PlanEnd}
use Rattle.planner.specs.declared.ends.PlanEnd.TheVariants.{Complete, NoPolicy, Budget}
use Rattle.planner.specs.declared.ends.PlanFault.{PlanFault}

-- a sink took a text of which this holds
pub record TakesText (old new : Option (List ℕ)) (Is : List ℕ → Type 0) : Type 0 where
  pub text : List ℕ
  pub taken : Appends old new text
  pub is : Is text

-- a call made this text: all of it is said; where it failed, a front of it was taken
abbrev pub Tells : {T : Type 0} → Option (List ℕ) → Option (List ℕ) → List ℕ → List ℕ → Result T PlanFault → Type 0
Tells from now kept text result = MatchResult result (λ _. IsSaid from now kept text) (λ _. IsFrontTaken from now text)

-- a text is the part of a set, written for a budget and true of the set, and planning the set ends so
pub record IsPartText (w : Lists) (budget set : ℕ) (end : SetEnd) (text : List ℕ) : Type 0 where
  pub part : Part
  pub text_is : text ≡ part_text w set part
  pub written : IsWrittenPart w budget set part
  pub holds : IsTrueOf w set part.ending
  pub told : end ≡ set_end_of part.ending

-- the part of a set is begun so: the lines of its tree are within the budget, and go on or are whole
-- against the cost of an allowed policy, or against nothing
pub record IsBegunPart (w : Lists) (budget set : ℕ) (lines : List Line) : Type 0 where
  pub found : Option Priced
  pub fits : FitsFound w set found
  pub within : length lines ≤ budget
  pub shown : IsOpenPrefix (program_of w set) lines (goal_of (cut_off found)) ⊎ IsProof (program_of w set) lines (goal_of (cut_off found))

-- bytes are the front of a set's part that is begun, or of a whole one
abbrev pub IsPartFront : Lists → ℕ → ℕ → List ℕ → Type 0
IsPartFront w budget set front =
    ((lines : List Line) × IsBegunPart w budget set lines × ((rest : List ℕ) × (front ++ rest ≡ begun_text w set lines)))
    ⊎ ((end : SetEnd) × (rest : List ℕ) × IsPartText w budget set end (front ++ rest))

-- what planning a set writes, by how it ends
abbrev pub SetWrites : Lists → ℕ → ℕ → Option (List ℕ) → Option (List ℕ) → Result SetEnd PlanFault → Type 0
SetWrites w budget set old new (Ok end) = TakesText old new (IsPartText w budget set end)
SetWrites w budget set old new (Err fault) = TakesText old new (IsPartFront w budget set)

-- what planning a world writes, by how it ends
abbrev pub PlanWrites : Lists → ℕ → Option (List ℕ) → Option (List ℕ) → Result PlanEnd PlanFault → Type 0
PlanWrites w budget old new (Ok Complete) = TakesText old new (IsLeastPlan w budget)
PlanWrites w budget old new (Ok (NoPolicy set)) = TakesText old new (λ text. IsPlanWithout w budget text set.0)
PlanWrites w budget old new (Ok (Budget set)) = TakesText old new (λ text. IsPlanCut w budget text set.0)
PlanWrites w budget old new (Err fault) = TakesText old new (IsPlanFront w budget)

-- behind a text the part of a set is said, or a front of it was taken
abbrev pub SaysPart : Lists → ℕ → ℕ → Option (List ℕ) → Option (List ℕ) → List ℕ → List ℕ → Result SetEnd PlanFault → Type 0
SaysPart w budget set from now kept text (Ok end) = (part : List ℕ) × IsPartText w budget set end part × IsSaid from now kept (text ++ part)
SaysPart w budget set from now kept text (Err fault) = (part : List ℕ) × IsPartFront w budget set part × IsFrontTaken from now (text ++ part)
