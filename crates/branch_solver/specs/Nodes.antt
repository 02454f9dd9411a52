-- What is written for a node.
use Rattle.std.specs.Prelude.{◌≡◌, ℕ, ◌<◌, ◌⊎◌, Bool, false, List, Option, Some, None, length}
use Rattle.zero_one.specs.Contents.{Contents}
use Rattle.zero_one.specs.Rows.{Meets}
use Rattle.zero_one.specs.Program.{IsFeasible, value_of}
use Rattle.bound_cert.specs.declared.leaves.Goal.{Goal}
use Rattle.bound_cert.specs.declared.leaves.Line.{Line}
use Rattle.bound_cert.specs.declared.leaves.Line.TheVariants.{Branch, Close}
use Rattle.bound_cert.specs.Leaves.{row_at}
use Rattle.dual_ascent.specs.Short.{NoShortEnds}
use Rattle.dual_ascent.specs.Kept.{IsFor}
use Rattle.branch_solver.specs.declared.node.Desk.{Desk}
use Rattle.branch_solver.specs.Best.{Best, Held, IsBest, IsNoWorse, IsAtMost}
use Rattle.branch_solver.specs.Given.{IsGivenUnder}

-- the best assignment is still one of the program, and no worse
pub record Improves (program : Contents) (before after : Held) : Type 0 where
  pub variables : after.variables ≡ before.variables
  pub sound : IsBest program before.best → IsBest program after.best
  pub no_worse : IsNoWorse before.best after.best

-- the line is a leaf
abbrev pub IsLeaf : Line → Type 0
IsLeaf (Branch var) = ⊥
IsLeaf (Close end) = Unit {0}

-- the line is one for the end of the path: a leaf, or a branch on this variable where no short leaf closes
abbrev pub IsNodeLine : Contents → Goal → List (Option Bool) → Line → Option ℕ → Type 0
IsNodeLine program goal fixed line None = IsLeaf line × IsGivenUnder program goal fixed line
IsNodeLine program goal fixed line (Some var) =
    (line ≡ Branch var) × IsGivenUnder program goal fixed line × NoShortEnds program fixed goal

-- what a search works with has the room that the program asks for
pub record IsReady (program : Contents) (desk : Desk) : Type 0 where
  pub ascent : IsFor program desk.ascent
  pub incumbent : desk.incumbent.variables ≡ length program.costs
  pub found : length desk.found ≡ length program.costs

-- the bit of a fixed variable, 0 for a free one
abbrev pub is_one : Option Bool → Bool
is_one (Some bit) = bit
is_one None = false

-- the assignment breaks a row, or the best one is as good
abbrev pub IsAnswered : Contents → List Bool → Option Best → Type 0
IsAnswered program x best =
    ((row : ℕ) × (row < length program.rows) × ¬ Meets x (row_at program.rows row))
    ⊎ (IsFeasible program x × IsAtMost best (value_of program.costs x))
