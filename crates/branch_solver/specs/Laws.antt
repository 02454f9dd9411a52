-- What the lines of a search are.
use Rattle.std.specs.Prelude.{◌≡◌, true, false, List}
use Rattle.zero_one.specs.Contents.{Contents}
use Rattle.bound_cert.specs.declared.leaves.Line.{Line}
use Rattle.bound_cert.specs.Trees.{IsProof, IsOpenPrefix}
use Rattle.branch_solver.specs.Best.{goal_of}
use Rattle.branch_solver.specs.Kept.{Kept, StandsFor}

-- while the tree isn't whole, the lines are an open prefix against the goal
abbrev pub SearchesAreOpen : Type 0
SearchesAreOpen =
    (program : Contents) (lines : List Line) (kept : Kept) → StandsFor program lines kept → kept.whole ≡ false → IsOpenPrefix program lines (goal_of kept.best)

-- once it is, they are a proof of the goal
abbrev pub SearchesProve : Type 0
SearchesProve =
    (program : Contents) (lines : List Line) (kept : Kept) → StandsFor program lines kept → kept.whole ≡ true → IsProof program lines (goal_of kept.best)
