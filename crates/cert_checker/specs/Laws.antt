use Rattle.std.specs.Prelude.{◌≡◌, ℕ, ℤ, pos, ◌≤◌, ◌≤ℤ◌, Bool, List}
use Rattle.zero_one.specs.Contents.{Contents}
use Rattle.zero_one.specs.Program.{value_of, IsFeasible, IsWithinLimits}
use Rattle.bound_cert.specs.declared.leaves.Line.{Line}
use Rattle.cert_checker.specs.declared.faults.CertFault.{CertFault}
use Rattle.cert_checker.specs.Lines.{IsTaken, IsRefused, AreTaken, IsWhole}
use Rattle.cert_checker.specs.Ceilings.{IsBoundingAt, IsCeilingAt}

-- where all lines of a tree were taken and no ceiling is below the cost, no feasible assignment has a lower value
abbrev pub CheckedLinesBound : Type 0
CheckedLinesBound =
    (program : Contents) → IsWithinLimits program → (lines : List Line) → AreTaken program lines → IsWhole program lines → (cost : ℕ) → ((number : ℕ) (ceiling : ℤ) → IsCeilingAt program lines number ceiling → pos cost ≤ℤ ceiling) → (x : List Bool) → IsFeasible program x → cost ≤ value_of program.costs x

-- where all lines of a tree were taken and no leaf has `s > 0`, no assignment is feasible
abbrev pub CheckedLinesRefute : Type 0
CheckedLinesRefute =
    (program : Contents) → IsWithinLimits program → (lines : List Line) → AreTaken program lines → IsWhole program lines → ((number : ℕ) → ¬ IsBoundingAt lines number) → (x : List Bool) → ¬ IsFeasible program x

-- a line that is refused isn't taken, and is refused on no other ground
abbrev pub LinesHaveOneAnswer : Type 0
LinesHaveOneAnswer =
    (program : Contents) (lines : List Line) (line : Line) (fault : CertFault) → IsRefused program lines line fault → (¬ IsTaken program lines line) × ((other : CertFault) → IsRefused program lines line other → other ≡ fault)
