-- The tree of a set's part, written line by line as its search gives it.
use Rattle.std.specs.Prelude.{◌≡◌, ℕ, ◌++◌, List, Option, Some, Result, IfOk}
use Rattle.zero_one.specs.Contents.{Contents}
use Rattle.zero_one.specs.Program.{IsWithinLimits}
use Rattle.bound_cert.specs.declared.leaves.Goal.TheVariants.{Cost, Nothing}
use Rattle.bound_cert.specs.declared.leaves.Line.{Line}
use Rattle.bound_cert.specs.Trees.{IsProof}
use Rattle.branch_solver.specs.declared.progress.Progress.{Progress}
use Rattle.branch_solver.specs.declared.progress.Progress.TheVariants as progress
use Rattle.branch_solver.specs.Best.{Best}
use Rattle.branch_solver.specs.Kept.{Kept, StandsFor}
use Rattle.branch_solver.specs.Steps.{IsCutOff}
use Rattle.sink_buffer.specs.Said.{IsSaid}
use Rattle.workload.specs.World.{Lists}
use Rattle.placement.specs.Placement.{program_of}
use Rattle.plan_text.specs.PlanText.{tree_text}
use Rattle.planner.specs.declared.ends.PlanFault.{PlanFault}
use Rattle.planner.specs.Writes.{Tells}

-- a search ends so past these lines; one more line is no end
abbrev pub EndsSearch : Contents → List Line → Kept → Progress → Type 0
EndsSearch program lines kept progress.Line = ⊥
EndsSearch program lines kept (progress.Found cost) =
    IsProof program lines (Cost cost) × ((best : Best) × (kept.best ≡ Some best) × (best.value ≡ cost))
EndsSearch program lines kept progress.NoneThere = IsProof program lines Nothing
EndsSearch program lines kept (progress.Budget value) = IsCutOff program lines kept

-- a search ran to its end, or to a fault; the lines that it gave are said behind what was said before,
-- and where it failed a front of them was taken
pub record SaysTree (program : Contents) (budget : ℕ) (kept : Kept) (before : Option (List ℕ)) (held_before : List ℕ) (now : Option (List ℕ)) (held : List ℕ) (result : Result Progress PlanFault) : Type 0 where
  pub lines : List Line
  pub stands : StandsFor program lines kept
  pub same : kept.budget ≡ budget
  pub told : (from : Option (List ℕ)) (text : List ℕ) → IsSaid from before held_before text → Tells from now held (text ++ tree_text lines) result
  pub ends : IfOk result (EndsSearch program lines kept)

-- a search of a set's program, for a budget of lines, ended so
pub record IsSearched (w : Lists) (budget set : ℕ) (kept : Kept) (end : Progress) : Type 0 where
  pub limits : IsWithinLimits (program_of w set)
  pub lines : List Line
  pub stands : StandsFor (program_of w set) lines kept
  pub same : kept.budget ≡ budget
  pub ends : EndsSearch (program_of w set) lines kept end
