-- The line that a buffer shows.
use Rattle.std.specs.Prelude.{◌≡◌, ℕ, length}
use Rattle.bound_cert.specs.declared.leaves.Line.{Line}
use Rattle.bound_cert.specs.declared.leaves.Line.TheVariants.{Branch, Close}
use Rattle.branch_solver.specs.declared.line_buf.Kind.{Kind}
use Rattle.branch_solver.specs.declared.line_buf.Kind.TheVariants as kind

-- a line, and for a leaf of how many rows there is room
pub record Buffer : Type 0 where
  pub line : Line
  pub room : ℕ

-- of the four lines that are kept the one of this kind
abbrev pub shown_line : Kind → Line → Line → Line → Line → Line
shown_line kind.Branch branch costs one_row long = branch
shown_line kind.Costs branch costs one_row long = costs
shown_line kind.OneRow branch costs one_row long = one_row
shown_line kind.Long branch costs one_row long = long

-- the line is a leaf of one row
abbrev pub HasOneRow : Line → Type 0
HasOneRow (Branch var) = ⊥
HasOneRow (Close end) = length end.pairs ≡ 1
