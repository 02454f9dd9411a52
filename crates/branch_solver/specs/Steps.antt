-- What a step gives.
use Rattle.std.specs.Prelude.{◌≡◌, ◌+◌, ◌-◌, ◌^◌, ◌<◌, Bool, List, [], ◌∷◌, ◌++◌, length, Option, Some, None, option_map}
use Rattle.zero_one.specs.Contents.{Contents}
use Rattle.bound_cert.specs.declared.leaves.Goal.{Goal}
use Rattle.bound_cert.specs.declared.leaves.Goal.TheVariants.{Cost, Nothing}
use Rattle.bound_cert.specs.declared.leaves.Line.{Line}
use Rattle.bound_cert.specs.declared.leaves.Line.TheVariants.{Branch, Close}
use Rattle.bound_cert.specs.Trees.{IsProof, IsOpenPrefix}
use Rattle.cert_checker.specs.declared.turns.Turn.{Turn}
use Rattle.cert_checker.specs.Paths.{path_after, path_past, fixed_by, fixed_over}
use Rattle.dual_ascent.specs.Short.{NoShortEnds}
use Rattle.branch_solver.specs.declared.progress.Progress.{Progress}
use Rattle.branch_solver.specs.declared.progress.Progress.TheVariants as progress
use Rattle.branch_solver.specs.Best.{Best, IsBest, IsNoWorse, goal_of}
use Rattle.branch_solver.specs.Given.{IsGivenUnder}
use Rattle.branch_solver.specs.Kept.{Kept, path_of, StandsFor}

-- under these fixed variables a branch is given only where no short leaf closes
abbrev pub BranchesLate : Contents → Goal → List (Option Bool) → Line → Type 0
BranchesLate program goal fixed (Branch var) = NoShortEnds program fixed goal
BranchesLate program goal fixed (Close end) = Unit {0}

-- one line more: a branch only where no short leaf closes against the goal as it is now
pub record Gives (program : Contents) (lines : List Line) (before : Kept) (line : Line) (after : Kept) : Type 0 where
  pub below : length lines < before.budget
  pub budget : after.budget ≡ before.budget
  pub no_worse : IsNoWorse before.best after.best
  pub stands : StandsFor program (lines ++ line ∷ []) after
  pub late : (path : List Turn) → path_after lines ≡ Some path → BranchesLate program (goal_of after.best) (fixed_by program path) line

-- the lines are cut off at the budget, where a whole tree may have more
pub record IsCutOff (program : Contents) (lines : List Line) (kept : Kept) : Type 0 where
  pub full : length lines ≡ kept.budget
  pub open_prefix : IsOpenPrefix program lines (goal_of kept.best)
  pub small : length lines < 2 ^ (length program.costs + 1) - 1

-- what a step gives past these lines: the next, or an end, which changes nothing and comes again
abbrev pub Steps : Contents → List Line → Kept → Line → Kept → Progress → Type 0
Steps program lines before line after progress.Line = Gives program lines before line after
Steps program lines before line after (progress.Found cost) =
    (after ≡ before)
    × IsProof program lines (Cost cost)
    × ((best : Best) × (after.best ≡ Some best) × IsBest program (Some best) × (best.value ≡ cost))
Steps program lines before line after progress.NoneThere =
    (after ≡ before) × IsProof program lines Nothing × (after.best ≡ None)
Steps program lines before line after (progress.Budget value) =
    (after ≡ before) × IsCutOff program lines after × (value ≡ option_map (λ (best : Best). best.value) after.best)

-- how a search ends whose tree is whole
abbrev pub ended : Option Best → Progress
ended None = progress.NoneThere
ended (Some best) = progress.Found best.value

-- what one line changes of what is kept, where the tree isn't whole
pub record Advances (program : Contents) (before : Kept) (line : Line) (after : Kept) : Type 0 where
  pub variables : after.variables ≡ before.variables
  pub rows : after.rows ≡ before.rows
  pub budget : after.budget ≡ before.budget
  pub count : after.count ≡ before.count + 1
  pub path : path_of after ≡ path_past (Some before.turns) line
  pub sound : IsBest program before.best → IsBest program after.best
  pub no_worse : IsNoWorse before.best after.best
  pub given : IsGivenUnder program (goal_of after.best) (fixed_over before.variables before.turns) line
  pub late : BranchesLate program (goal_of after.best) (fixed_over before.variables before.turns) line
