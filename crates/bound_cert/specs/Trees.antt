use Rattle.std.specs.Prelude.{◌≡◌, ℕ, ◌<◌, Bool, true, false, List, [], ◌∷◌, ◌++◌, length, take, replicate, Option, Some, None, All, slice_get, slice_set}
use Rattle.zero_one.specs.Contents.{Contents}
use Rattle.zero_one.specs.Rows.{CanHold}
use Rattle.bound_cert.specs.declared.leaves.Leaf.{Leaf}
use Rattle.bound_cert.specs.declared.leaves.Line.{Line}
use Rattle.bound_cert.specs.declared.leaves.Line.TheVariants.{Branch, Close}
use Rattle.bound_cert.specs.declared.leaves.Goal.{Goal}
use Rattle.bound_cert.specs.Leaves.{leaf_bound, LeafFits}
use Rattle.bound_cert.specs.Closing.{Closes}

-- a tree: a leaf, or a branch on a variable with a tree for its bit 0 and one for its bit 1
pub data Tree : Type 0 where
  leaf : Leaf → Tree
  branch : ℕ → Tree → Tree → Tree

-- the lines of a tree: its nodes, each before those below it
abbrev pub lines_of : Tree → List Line
lines_of (leaf end) = Close end ∷ []
lines_of (branch var zeros ones) = Branch var ∷ (lines_of zeros ++ lines_of ones)

-- the variable is one of the program's and free
abbrev pub IsFree : List (Option Bool) → ℕ → Type 0
IsFree fixed var = slice_get fixed var ≡ Some None

-- the fixed variables with one more
abbrev pub fix : List (Option Bool) → ℕ → Bool → List (Option Bool)
fix fixed var bit = slice_set fixed var (Some bit)

-- no variable of the program fixed
abbrev pub all_free : Contents → List (Option Bool)
all_free program = replicate (length program.costs) None

-- below a path each branch is on a variable of the program that stands nowhere above it
abbrev pub IsTreeBelow : List (Option Bool) → Tree → Type 0
IsTreeBelow fixed (leaf end) = Unit {0}
IsTreeBelow fixed (branch var zeros ones) =
    IsFree fixed var × IsTreeBelow (fix fixed var false) zeros × IsTreeBelow (fix fixed var true) ones

-- a node of a tree: the variables that its path fixes, and its line
pub record Node : Type 0 where
  pub fixed : List (Option Bool)
  pub line : Line

-- the nodes of a tree below a path, each before those below it
abbrev pub nodes_of : List (Option Bool) → Tree → List Node
nodes_of fixed (leaf end) = record { fixed = fixed; line = Close end } ∷ []
nodes_of fixed (branch var zeros ones) =
    record { fixed = fixed; line = Branch var }
    ∷ (nodes_of (fix fixed var false) zeros ++ nodes_of (fix fixed var true) ones)

-- the leaf fits and closes under these fixed variables; a branch has no leaf
abbrev pub ClosesAt : Contents → Goal → List (Option Bool) → Line → Type 0
ClosesAt program goal fixed (Branch var) = Unit {0}
ClosesAt program goal fixed (Close end) = LeafFits program end × Closes (leaf_bound program fixed end) end.s goal

-- a node with a leaf has one that fits and closes
abbrev pub IsClosed : Contents → Goal → Node → Type 0
IsClosed program goal node = ClosesAt program goal node.fixed node.line

-- at a branch line each row can still hold by itself
abbrev pub StaysOpenAt : Contents → List (Option Bool) → Line → Type 0
StaysOpenAt program fixed (Branch var) = All (CanHold fixed) program.rows
StaysOpenAt program fixed (Close end) = Unit {0}

-- a node with a branch leaves each row a way to hold
abbrev pub IsOpen : Contents → Node → Type 0
IsOpen program node = StaysOpenAt program node.fixed node.line

-- the lines are a proof of the goal: all lines of a tree whose leaves fit and close
pub record IsProof (program : Contents) (lines : List Line) (goal : Goal) : Type 0 where
  pub tree : Tree
  pub well_formed : IsTreeBelow (all_free program) tree
  pub whole : lines ≡ lines_of tree
  pub closed : All (IsClosed program goal) (nodes_of (all_free program) tree)

-- the lines are a search cut off: the first lines of a longer tree, whose leaves so far fit and close, and whose branches so far were open
pub record IsOpenPrefix (program : Contents) (lines : List Line) (goal : Goal) : Type 0 where
  pub tree : Tree
  pub well_formed : IsTreeBelow (all_free program) tree
  pub longer : length lines < length (lines_of tree)
  pub front : lines ≡ take (length lines) (lines_of tree)
  pub closed : All (IsClosed program goal) (take (length lines) (nodes_of (all_free program) tree))
  pub opened : All (IsOpen program) (take (length lines) (nodes_of (all_free program) tree))
