-- What `plan` does with a file and a sink.
use Rattle.std.specs.Prelude.{◌≡◌, ℕ, ◌⊎◌, List, Option, Ok}
use Rattle.span_base.specs.Files.{Files}
use Rattle.workload.specs.World.{Lists, IsComplete, IsNamed}
use Rattle.plan_text.specs.Plans.{IsLeastPlan, IsPlanWithout, IsPlanCut, IsPlanFront}
use Rattle.planner.specs.Writes.{TakesText}
use Rattle.span_top.specs.declared.status.Status.{Status}
use Rattle.span_top.specs.declared.status.Status.TheVariants.{Done, NoMemory, NoPolicy, Budget, WriteFault}
use Rattle.span_top.specs.WorldFile.{FileSays, RefusesWorld}

-- the sink took nothing
abbrev pub TakesNothing : Option (List ℕ) → Option (List ℕ) → Type 0
TakesNothing old new = new ≡ old

-- the file is a world, complete and with names, and the sink took a text of which this holds for that world
pub record PlansWorld (files : Option Files) (name : List ℕ) (old new : Option (List ℕ)) (Is : Lists → List ℕ → Type 0) : Type 0 where
  pub world : Lists
  pub file : FileSays files name (Ok world)
  pub complete : IsComplete world
  pub named : IsNamed world
  pub text : TakesText old new (Is world)

-- how `plan` ends with a named file and a budget of tree lines a set, and what the sink took
abbrev pub PlanEnds : Option Files → List ℕ → ℕ → Option (List ℕ) → Option (List ℕ) → Status → Type 0
PlanEnds files name budget old new Done = PlansWorld files name old new (λ w. IsLeastPlan w budget)
PlanEnds files name budget old new NoMemory = TakesNothing old new ⊎ PlansWorld files name old new (λ w. IsPlanFront w budget)
PlanEnds files name budget old new (NoPolicy set) = PlansWorld files name old new (λ w text. IsPlanWithout w budget text set.0)
PlanEnds files name budget old new (Budget set) = PlansWorld files name old new (λ w text. IsPlanCut w budget text set.0)
PlanEnds files name budget old new WriteFault = PlansWorld files name old new (λ w. IsPlanFront w budget)
PlanEnds files name budget old new other = RefusesWorld files name other × TakesNothing old new

-- how `plan` ends with a world, which some file says, and what the sink took
abbrev pub WorldEnds : Lists → ℕ → Option (List ℕ) → Option (List ℕ) → Status → Type 0
WorldEnds w budget old new status =
    (files : Option Files) (name : List ℕ) → FileSays files name (Ok w) → PlanEnds files name budget old new status
