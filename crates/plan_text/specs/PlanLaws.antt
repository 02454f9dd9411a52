-- What the text of a plan says of its parts.
use Rattle.std.specs.Prelude.{◌≡◌, ◌^◌, ◌<◌, List, length, All, Some, None}
use Rattle.bound_cert.specs.Reading.{IsWithinRanges}
use Rattle.workload.specs.World.{Lists, IsComplete, IsNamed}
use Rattle.slo_rules.specs.PolicyLaws.{HasFitSets}
use Rattle.plan_text.specs.Parts.{Ending, complete, none_allowed, cut_off, Part}
use Rattle.plan_text.specs.PlanText.{plan_text}
use Rattle.plan_text.specs.Plans.{EachPart, IsAcceptedPart}

-- the numbers of an ending fit the types that keep them: a cost of 128 bits, sets of 16 centres
abbrev pub FitsEnding : Ending → Type 0
FitsEnding (complete cost policy) = (cost < 2 ^ 128) × HasFitSets policy
FitsEnding none_allowed = Unit {0}
FitsEnding (cut_off None) = Unit {0}
FitsEnding (cut_off (Some found)) = (found.cost < 2 ^ 128) × HasFitSets found.policy

-- so do all numbers of a part
pub record FitsPart (part : Part) : Type 0 where
  pub lines : All IsWithinRanges part.lines
  pub ending : FitsEnding part.ending

-- parts that a world's plan can have: one for every set, each accepted and of numbers that fit
pub record ArePartsOf (w : Lists) (parts : List Part) : Type 0 where
  pub one_each : length parts ≡ length w.sets
  pub accepted : EachPart (IsAcceptedPart w) parts
  pub fit : EachPart (λ set part. FitsPart part) parts

-- a plan text has one reading: equal texts of accepted parts are of equal parts
abbrev pub PlanTextsAreToldApart : Type 0
PlanTextsAreToldApart =
    (w : Lists) → IsComplete w → IsNamed w → (a b : List Part) → ArePartsOf w a → ArePartsOf w b → plan_text w a ≡ plan_text w b → a ≡ b
