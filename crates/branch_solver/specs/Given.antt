-- Which lines a search may give.
use Rattle.std.specs.Prelude.{◌≡◌, ℕ, ◌<◌, Bool, List, take, Option, Some, None, All, slice_get}
use Rattle.zero_one.specs.Contents.{Contents}
use Rattle.zero_one.specs.Rows.{CanHold}
use Rattle.bound_cert.specs.declared.leaves.Goal.{Goal}
use Rattle.bound_cert.specs.declared.leaves.Line.{Line}
use Rattle.bound_cert.specs.declared.leaves.Line.TheVariants.{Branch, Close}
use Rattle.bound_cert.specs.Leaves.{leaf_bound, LeafFits}
use Rattle.bound_cert.specs.Closing.{Closes}
use Rattle.bound_cert.specs.Trees.{IsFree}
use Rattle.cert_checker.specs.declared.turns.Turn.{Turn}
use Rattle.cert_checker.specs.Paths.{path_after, fixed_by}

-- the free variable of least number
pub record IsLeastFree (fixed : List (Option Bool)) (var : ℕ) : Type 0 where
  pub free : IsFree fixed var
  pub least : (other : ℕ) → other < var → ¬ IsFree fixed other

-- under these fixed variables a branch is on the free variable of least number, and each row can still hold; a leaf fits and closes
abbrev pub IsGivenUnder : Contents → Goal → List (Option Bool) → Line → Type 0
IsGivenUnder program goal fixed (Branch var) = IsLeastFree fixed var × All (CanHold fixed) program.rows
IsGivenUnder program goal fixed (Close end) = LeafFits program end × Closes (leaf_bound program fixed end) end.s goal

-- the tree isn't whole, and the line is one for the end of the path
abbrev pub IsGivenAt : Contents → Goal → Option (List Turn) → Line → Type 0
IsGivenAt program goal None line = ⊥
IsGivenAt program goal (Some path) line = IsGivenUnder program goal (fixed_by program path) line

-- each line is one for the end of the path to it
abbrev pub AreGiven : Contents → Goal → List Line → Type 0
AreGiven program goal lines =
    (at : ℕ) (line : Line) → slice_get lines at ≡ Some line → IsGivenAt program goal (path_after (take at lines)) line
