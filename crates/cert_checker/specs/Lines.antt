-- Which lines a tree can go on with.
use Rattle.std.specs.Prelude.{◌≡◌, ℕ, ◌+◌, ◌<◌, ◌≤◌, pos, ◌<ℤ◌, ◌≤ℤ◌, Bool, List, length, take, Option, Some, None, All, Any, slice_get}
use Rattle.zero_one.specs.Contents.{Contents}
use Rattle.bound_cert.specs.declared.leaves.Line.{Line}
use Rattle.bound_cert.specs.declared.leaves.Line.TheVariants.{Branch, Close}
use Rattle.bound_cert.specs.Leaves.{leaf_bound, LeafFits}
use Rattle.bound_cert.specs.Trees.{Tree, lines_of, all_free, IsFree, IsTreeBelow}
use Rattle.cert_checker.specs.declared.faults.CertFault.{CertFault}
use Rattle.cert_checker.specs.declared.faults.CertFault.TheVariants.{TooLong, NoSuchVar, VarTwice, RowUnknown, Range, NotClosed}
use Rattle.cert_checker.specs.declared.turns.Turn.{Turn}
use Rattle.cert_checker.specs.Paths.{path_after, fixed_by}

-- under these fixed variables a branch is on a free variable of the program; a leaf fits, and with `s = 0` its value is above 0
abbrev pub IsTakenUnder : Contents → List (Option Bool) → Line → Type 0
IsTakenUnder program fixed (Branch var) = IsFree fixed var
IsTakenUnder program fixed (Close end) = LeafFits program end × (end.s ≡ 0 → pos 0 <ℤ leaf_bound program fixed end)

-- the tree isn't whole, and goes on with this line at the end of the path
abbrev pub IsTakenAt : Contents → Option (List Turn) → Line → Type 0
IsTakenAt program None line = ⊥
IsTakenAt program (Some path) line = IsTakenUnder program (fixed_by program path) line

-- past these lines no ground speaks against this one
abbrev pub IsTaken : Contents → List Line → Line → Type 0
IsTaken program lines line = IsTakenAt program (path_after lines) line

-- no line is refused in its turn
abbrev pub AreTaken : Contents → List Line → Type 0
AreTaken program lines =
    (at : ℕ) (line : Line) → slice_get lines at ≡ Some line → IsTaken program (take at lines) line

-- under these fixed variables this ground speaks against the line with this number, and none that is looked for before it
abbrev pub IsRefusedUnder : Contents → List (Option Bool) → ℕ → Line → CertFault → Type 0
IsRefusedUnder program fixed number (Branch var) NoSuchVar = length program.costs ≤ var
IsRefusedUnder program fixed number (Branch var) VarTwice = (var < length program.costs) × ¬ IsFree fixed var
IsRefusedUnder program fixed number (Branch var) other = ⊥
IsRefusedUnder program fixed number (Close end) RowUnknown = Any (λ pair. length program.rows ≤ pair.row) end.pairs
IsRefusedUnder program fixed number (Close end) Range =
    All (λ pair. pair.row < length program.rows) end.pairs × ¬ LeafFits program end
IsRefusedUnder program fixed number (Close end) (NotClosed line) =
    LeafFits program end × (end.s ≡ 0) × (leaf_bound program fixed end ≤ℤ pos 0) × (line ≡ number)
IsRefusedUnder program fixed number (Close end) other = ⊥

-- the tree is whole and the line one too many, or the line is refused at the end of the path
abbrev pub IsRefusedAt : Contents → Option (List Turn) → ℕ → Line → CertFault → Type 0
IsRefusedAt program None number line fault = fault ≡ TooLong
IsRefusedAt program (Some path) number line fault = IsRefusedUnder program (fixed_by program path) number line fault

-- past these lines this is the first ground that speaks against the line; lines are counted from 1
abbrev pub IsRefused : Contents → List Line → Line → CertFault → Type 0
IsRefused program lines line fault = IsRefusedAt program (path_after lines) (length lines + 1) line fault

-- these are all the lines of a tree
pub record IsWhole (program : Contents) (lines : List Line) : Type 0 where
  pub tree : Tree
  pub well_formed : IsTreeBelow (all_free program) tree
  pub whole : lines ≡ lines_of tree
