-- The path to the node that a line of a tree comes to.
use Rattle.std.specs.Prelude.{◌≡◌, ℕ, suc, ◌≤◌, Bool, true, false, if◌then◌else◌, List, [], ◌∷◌, length, replicate, Option, Some, None, slice_get, drop}
use Rattle.zero_one.specs.Contents.{Contents}
use Rattle.bound_cert.specs.declared.leaves.Line.{Line}
use Rattle.bound_cert.specs.declared.leaves.Line.TheVariants.{Branch, Close}
use Rattle.bound_cert.specs.Trees.{IsFree, fix}
use Rattle.cert_checker.specs.declared.turns.Turn.{Turn}

-- the path to the next node past a leaf: the deepest turn with bit 0 takes its bit 1; none where each turn has bit 1. A path has its deepest turn first
abbrev pub turned_back : List Turn → Option (List Turn)
turned_back [] = None
turned_back (turn ∷ above) =
    if turn.bit then turned_back above else Some (record { var = turn.var; bit = true } ∷ above)

-- the path past a line: a branch goes on at its bit 0, a leaf turns back; past a whole tree there is none
abbrev pub path_past : Option (List Turn) → Line → Option (List Turn)
path_past None line = None
path_past (Some path) (Branch var) = Some (record { var = var; bit = false } ∷ path)
path_past (Some path) (Close end) = turned_back path

-- the path past lines that begin at this one
abbrev pub path_from : Option (List Turn) → List Line → Option (List Turn)
path_from path [] = path
path_from path (line ∷ lines) = path_from (path_past path line) lines

-- the path to the node whose line comes next, none where the tree is whole
abbrev pub path_after : List Line → Option (List Turn)
path_after lines = path_from (Some []) lines

-- the variables that the path fixes, among so many
abbrev pub fixed_over : ℕ → List Turn → List (Option Bool)
fixed_over variables [] = replicate variables None
fixed_over variables (turn ∷ above) = fix (fixed_over variables above) turn.var turn.bit

-- the variables of the program that the path fixes
abbrev pub fixed_by : Contents → List Turn → List (Option Bool)
fixed_by program path = fixed_over (length program.costs) path

-- each turn is on a variable that is there, and stands nowhere above
abbrev pub IsPath : ℕ → List Turn → Type 0
IsPath variables path =
    (at : ℕ) (turn : Turn) → slice_get path at ≡ Some turn → IsFree (fixed_over variables (drop (suc at) path)) turn.var

-- the path stands in the list from place `free` on, where `free` is at most the number of variables, and these are the variables that it fixes
pub record HoldsPath (turns : List Turn) (free : ℕ) (fixed : List (Option Bool)) : Type 0 where
  pub within : free ≤ length turns
  pub fixes : fixed ≡ fixed_over (length turns) (drop free turns)
  pub apart : IsPath (length turns) (drop free turns)

-- a path, and how many variables there are
pub record Route : Type 0 where
  pub variables : ℕ
  pub turns : List Turn
