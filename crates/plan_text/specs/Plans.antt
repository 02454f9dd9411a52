-- What makes a text a plan: one that shows for each set what it says, or one cut off at a budget of lines.
use Rattle.std.specs.Prelude.{◌≡◌, ℕ, ◌+◌, ◌-◌, ◌^◌, ◌<◌, ◌≤◌, ◌⊎◌, ◌++◌, List, length, Option, Some, None, slice_get, true, false, codes}
use Rattle.bound_cert.specs.declared.leaves.Goal.{Goal}
use Rattle.bound_cert.specs.declared.leaves.Goal.TheVariants.{Cost, Nothing}
use Rattle.bound_cert.specs.declared.leaves.Line.{Line}
use Rattle.bound_cert.specs.Trees.{IsProof, IsOpenPrefix}
use Rattle.workload.specs.World.{Lists}
use Rattle.slo_rules.specs.Rules.{IsAllowed}
use Rattle.slo_rules.specs.Cost.{policy_cost, IsLeast, HasNoPolicy}
use Rattle.slo_rules.specs.PolicyLaws.{HasFitSets}
use Rattle.placement.specs.Placement.{program_of}
use Rattle.plan_text.specs.Parts.{Priced, Ending, complete, none_allowed, cut_off, Part, completes, is_cut}
use Rattle.plan_text.specs.PlanText.{plan_text, parts_text, begun_text}

-- what the leaves of a part's tree have to show
abbrev pub goal_of : Ending → Goal
goal_of (complete cost policy) = Cost cost
goal_of none_allowed = Nothing
goal_of (cut_off None) = Nothing
goal_of (cut_off (Some found)) = Cost found.cost

-- the policy is allowed for the set, and costs as much as is said
abbrev pub IsPriced : Lists → ℕ → Priced → Type 0
IsPriced w set priced = IsAllowed w set priced.policy × (policy_cost w set priced.policy ≡ priced.cost)

-- an ending is that of a whole part and fits the set: the policy is allowed and costs as much as is said
abbrev pub FitsSet : Lists → ℕ → Ending → Type 0
FitsSet w set (complete cost policy) = IsAllowed w set policy × (policy_cost w set policy ≡ cost)
FitsSet w set none_allowed = Unit {0}
FitsSet w set (cut_off found) = ⊥

-- a part is accepted for a set: its lines are a proof of what its ending says, for the set's program
pub record IsAcceptedPart (w : Lists) (set : ℕ) (part : Part) : Type 0 where
  pub shown : IsProof (program_of w set) part.lines (goal_of part.ending)
  pub ending : FitsSet w set part.ending

-- if a policy was found, it is allowed for the set, and costs as much as is said
abbrev pub FitsFound : Lists → ℕ → Option Priced → Type 0
FitsFound w set None = Unit {0}
FitsFound w set (Some found) = IsPriced w set found

-- a part is cut off at a budget: it has just so many lines, of a tree that goes on and may be larger
-- than the budget, and its leaves close against the cost of the best policy found
pub record IsCutPart (w : Lists) (budget set : ℕ) (part : Part) : Type 0 where
  pub found : Option Priced
  pub ending : part.ending ≡ cut_off found
  pub fits : FitsFound w set found
  pub full : length part.lines ≡ budget
  pub open_prefix : IsOpenPrefix (program_of w set) part.lines (goal_of part.ending)
  pub small : budget < 2 ^ (length (program_of w set).costs + 1) - 1

-- the sets of an ending's policy have no centres but the 16 that there can be
abbrev pub HasFitPolicy : Ending → Type 0
HasFitPolicy (complete cost policy) = HasFitSets policy
HasFitPolicy none_allowed = Unit {0}
HasFitPolicy (cut_off found) = Unit {0}

-- a part is written to its end within a budget of lines: it is accepted, and its policy's sets fit
pub record IsWholePart (w : Lists) (budget set : ℕ) (part : Part) : Type 0 where
  pub accepted : IsAcceptedPart w set part
  pub fits : HasFitPolicy part.ending
  pub within : length part.lines ≤ budget

-- a part is written for a budget of lines: to its end, or cut off at the budget
abbrev pub IsWrittenPart : Lists → ℕ → ℕ → Part → Type 0
IsWrittenPart w budget set part = IsWholePart w budget set part ⊎ IsCutPart w budget set part

-- a fact holds of each part and the number of its set
abbrev pub EachPart : (ℕ → Part → Type 0) → List Part → Type 0
EachPart P parts = (set : ℕ) (part : Part) → slice_get parts set ≡ Some part → P set part

-- a text is an accepted plan of a world with these parts, one for every set, in order
pub record HasParts (w : Lists) (text : List ℕ) (parts : List Part) : Type 0 where
  pub text_is : text ≡ plan_text w parts
  pub one_each : length parts ≡ length w.sets
  pub accepted : EachPart (IsAcceptedPart w) parts

-- a text is an accepted plan of a world
abbrev pub IsAcceptedPlan : Lists → List ℕ → Type 0
IsAcceptedPlan w text = (parts : List Part) × HasParts w text parts

-- an ending is true of a set: its policy is least, or the set has none; one cut off says nothing
abbrev pub IsTrueOf : Lists → ℕ → Ending → Type 0
IsTrueOf w set (complete cost policy) = IsLeast w set policy
IsTrueOf w set none_allowed = HasNoPolicy w set
IsTrueOf w set (cut_off found) = Unit {0}

-- a text is the plan of a world, written for a budget of lines a set: a part for every set, in order, each true of its set
pub record IsWrittenPlan (w : Lists) (budget : ℕ) (text : List ℕ) (parts : List Part) : Type 0 where
  pub text_is : text ≡ plan_text w parts
  pub one_each : length parts ≡ length w.sets
  pub written : EachPart (IsWrittenPart w budget) parts
  pub holds : EachPart (λ set part. IsTrueOf w set part.ending) parts

-- the ending of this set's part is such, and no set before it has one
pub record IsFirst (Is : Ending → Type 0) (parts : List Part) (set : ℕ) : Type 0 where
  pub is : (part : Part) × (slice_get parts set ≡ Some part) × Is part.ending
  pub first : EachPart (λ other part. other < set → ¬ Is part.ending) parts

-- a text is a plan that gives every set its least policy
pub record IsLeastPlan (w : Lists) (budget : ℕ) (text : List ℕ) : Type 0 where
  pub parts : List Part
  pub written : IsWrittenPlan w budget text parts
  pub complete : EachPart (λ set part. completes part.ending ≡ true) parts

-- a text is a plan in which this set is the first without a policy, and none is cut off
pub record IsPlanWithout (w : Lists) (budget : ℕ) (text : List ℕ) (lacking : ℕ) : Type 0 where
  pub parts : List Part
  pub written : IsWrittenPlan w budget text parts
  pub uncut : EachPart (λ set part. is_cut part.ending ≡ false) parts
  pub lacks : IsFirst (λ ending. completes ending ≡ false) parts lacking

-- a text is a plan in which this set is the first that is cut off
pub record IsPlanCut (w : Lists) (budget : ℕ) (text : List ℕ) (unfinished : ℕ) : Type 0 where
  pub parts : List Part
  pub written : IsWrittenPlan w budget text parts
  pub cut : IsFirst (λ ending. is_cut ending ≡ true) parts unfinished

-- the parts of a world's first sets, each written for a budget and true of its set
pub record AreFirstParts (w : Lists) (budget : ℕ) (parts : List Part) : Type 0 where
  pub few : length parts ≤ length w.sets
  pub written : EachPart (IsWrittenPart w budget) parts
  pub holds : EachPart (λ set part. IsTrueOf w set part.ending) parts

-- the text of a plan that is begun: its first line, the parts of the first sets, and the next set's part as far as its tree has these lines
abbrev pub begun_plan : Lists → List Part → List Line → List ℕ
begun_plan w parts lines = codes "span-plan 1\n" ++ parts_text w 0 parts ++ begun_text w (length parts) lines

-- a plan is begun so: the lines of the next set's tree are within the budget, and go on or are whole
-- against the cost of an allowed policy, or against nothing
pub record IsBegun (w : Lists) (budget : ℕ) (parts : List Part) (lines : List Line) : Type 0 where
  pub first : AreFirstParts w budget parts
  pub there : length parts < length w.sets
  pub found : Option Priced
  pub fits : FitsFound w (length parts) found
  pub within : length lines ≤ budget
  pub shown : IsOpenPrefix (program_of w (length parts)) lines (goal_of (cut_off found)) ⊎ IsProof (program_of w (length parts)) lines (goal_of (cut_off found))

-- bytes are the front of a plan that is begun, or of a whole one
abbrev pub IsPlanFront : Lists → ℕ → List ℕ → Type 0
IsPlanFront w budget front =
    ((parts : List Part) × (lines : List Line) × IsBegun w budget parts lines × ((rest : List ℕ) × (front ++ rest ≡ begun_plan w parts lines)))
    ⊎ ((parts : List Part) × (rest : List ℕ) × IsWrittenPlan w budget (front ++ rest) parts)
