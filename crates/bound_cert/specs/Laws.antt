use Rattle.std.specs.Prelude.{◌≡◌, ℕ, ◌*◌, pos, ◌≤◌, ◌≤ℤ◌, Bool, List, Option}
use Rattle.zero_one.specs.Contents.{Contents}
use Rattle.zero_one.specs.Rows.{Agrees}
use Rattle.zero_one.specs.Program.{value_of, IsFeasible, IsWithinLimits}
use Rattle.bound_cert.specs.declared.leaves.Leaf.{Leaf}
use Rattle.bound_cert.specs.declared.leaves.Line.{Line}
use Rattle.bound_cert.specs.declared.leaves.Goal.TheVariants.{Cost, Nothing}
use Rattle.bound_cert.specs.Leaves.{leaf_bound}
use Rattle.bound_cert.specs.Trees.{IsProof}
use Rattle.bound_cert.specs.Text.{line_text}
use Rattle.bound_cert.specs.Reading.{IsSpellable, IsWithinRanges, IsFirstFault}

-- the bound of a leaf is at most `s` times the value of each feasible assignment on its path
abbrev pub LeavesBound : Type 0
LeavesBound =
    (program : Contents) → IsWithinLimits program → (fixed : List (Option Bool)) (leaf : Leaf) (x : List Bool) → IsFeasible program x → Agrees fixed x → leaf_bound program fixed leaf ≤ℤ pos (leaf.s * value_of program.costs x)

-- a proof of a cost: no feasible assignment has a lower value
abbrev pub ProofsBound : Type 0
ProofsBound =
    (program : Contents) → IsWithinLimits program → (lines : List Line) (cost : ℕ) → IsProof program lines (Cost cost) → (x : List Bool) → IsFeasible program x → cost ≤ value_of program.costs x

-- a proof of nothing: no assignment is feasible
abbrev pub ProofsRefute : Type 0
ProofsRefute =
    (program : Contents) → IsWithinLimits program → (lines : List Line) → IsProof program lines Nothing → (x : List Bool) → ¬ IsFeasible program x

-- a text is that of at most one line, be its numbers past their limits or not
abbrev pub LinesHaveOneReading : Type 0
LinesHaveOneReading = (a : Line) (b : Line) → IsSpellable a → IsSpellable b → line_text a ≡ line_text b → a ≡ b

-- the text of a line whose numbers are within their limits has no fault
abbrev pub LinesHaveNoFault : Type 0
LinesHaveNoFault =
    (line : Line) → IsSpellable line → IsWithinRanges line → (place : ℕ) → ¬ IsFirstFault (line_text line) place
