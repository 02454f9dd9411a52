-- What a search keeps of the lines that it gave.
use Rattle.std.specs.Prelude.{◌≡◌, ℕ, ◌≤◌, ◌^◌, Bool, if◌then◌else◌, List, length, Option, Some, None}
use Rattle.zero_one.specs.Contents.{Contents}
use Rattle.bound_cert.specs.declared.leaves.Line.{Line}
use Rattle.cert_checker.specs.declared.turns.Turn.{Turn}
use Rattle.cert_checker.specs.Paths.{path_after}
use Rattle.branch_solver.specs.declared.node.Desk.{Desk}
use Rattle.branch_solver.specs.Best.{Best, IsBest, goal_of}
use Rattle.branch_solver.specs.Given.{AreGiven}

-- how many variables and rows the program has, the path to the next node, whether the tree is whole, how many lines were given and may be, and the best assignment
pub record Kept : Type 0 where
  pub variables : ℕ
  pub rows : ℕ
  pub turns : List Turn
  pub whole : Bool
  pub count : ℕ
  pub budget : ℕ
  pub best : Option Best

-- the path to the next node, none where the tree is whole
abbrev pub path_of : Kept → Option (List Turn)
path_of kept = if kept.whole then None else Some kept.turns

-- the search gave these lines of a tree for the program, each leaf of which closes against the goal that its best assignment sets
pub record StandsFor (program : Contents) (lines : List Line) (kept : Kept) : Type 0 where
  pub variables : kept.variables ≡ length program.costs
  pub rows : kept.rows ≡ length program.rows
  pub path : path_of kept ≡ path_after lines
  pub count : kept.count ≡ length lines
  pub within : kept.count ≤ kept.budget
  pub best : IsBest program kept.best
  pub given : AreGiven program (goal_of kept.best) lines

-- what the search works with has room for so many variables
pub record IsEquipped (variables : ℕ) (desk : Desk) : Type 0 where
  pub ascent : desk.ascent.variables ≡ variables
  pub incumbent : desk.incumbent.variables ≡ variables
  pub found : length desk.found ≡ variables

-- each line puts at most one frame, and there are few lines, so no slot of a frame comes to its last generation
pub record HasFewPuts (puts given budget : ℕ) : Type 0 where
  pub few : puts ≤ given
  pub limit : budget ≤ 10 ^ 9
