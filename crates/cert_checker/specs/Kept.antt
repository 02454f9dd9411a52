-- What a checker keeps of the lines that it was fed.
use Rattle.std.specs.Prelude.{◌≡◌, ℕ, Bool, if◌then◌else◌, List, length, Option, Some, None}
use Rattle.zero_one.specs.Contents.{Contents}
use Rattle.bound_cert.specs.declared.leaves.Line.{Line}
use Rattle.cert_checker.specs.declared.ceilings.Ceilings.{Ceilings}
use Rattle.cert_checker.specs.declared.turns.Turn.{Turn}
use Rattle.cert_checker.specs.Paths.{path_after}
use Rattle.cert_checker.specs.Lines.{AreTaken}
use Rattle.cert_checker.specs.Ceilings.{AreCeilingsOf}

-- how many variables the program has, the path, whether the tree is whole, how many lines there were, and what their leaves showed
pub record Kept : Type 0 where
  pub variables : ℕ
  pub turns : List Turn
  pub whole : Bool
  pub count : ℕ
  pub ceilings : Option Ceilings

-- the path to the next node, none where the tree is whole
abbrev pub path_of : Kept → Option (List Turn)
path_of kept = if kept.whole then None else Some kept.turns

-- the lines leave this
pub record IsLeftBy (program : Contents) (lines : List Line) (kept : Kept) : Type 0 where
  pub variables : kept.variables ≡ length program.costs
  pub path : path_of kept ≡ path_after lines
  pub count : kept.count ≡ length lines
  pub ceilings : AreCeilingsOf program lines kept.ceilings

-- each line was taken in its turn, and together they leave this
pub record StandsFor (program : Contents) (lines : List Line) (kept : Kept) : Type 0 where
  pub taken : AreTaken program lines
  pub left : IsLeftBy program lines kept
