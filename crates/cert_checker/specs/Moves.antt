-- What one line changes of what a checker keeps.
use Rattle.std.specs.Prelude.{◌≡◌, ℕ, ◌+◌, ◌<◌, ℤ, pos, ◌<ℤ◌, ◌≤ℤ◌, if◌then◌else◌, Option, Some, Result, Ok, Err}
use Rattle.zero_one.specs.Contents.{Contents}
use Rattle.bound_cert.specs.declared.leaves.Line.{Line}
use Rattle.bound_cert.specs.declared.leaves.Line.TheVariants.{Branch, Close}
use Rattle.bound_cert.specs.declared.leaves.Goal.{Goal}
use Rattle.bound_cert.specs.declared.leaves.Goal.TheVariants.{Cost, Nothing}
use Rattle.bound_cert.specs.Leaves.{leaf_bound}
use Rattle.cert_checker.specs.declared.ceilings.Ceilings.{Ceilings}
use Rattle.cert_checker.specs.declared.faults.CertFault.{CertFault}
use Rattle.cert_checker.specs.declared.faults.CertFault.TheVariants.{NotClosed, Bounded}
use Rattle.cert_checker.specs.declared.faults.Step.{Step}
use Rattle.cert_checker.specs.declared.faults.Step.TheVariants.{More, Whole}
use Rattle.cert_checker.specs.Paths.{path_past, fixed_over}
use Rattle.cert_checker.specs.Lines.{IsTakenUnder, IsRefusedUnder}
use Rattle.cert_checker.specs.Ceilings.{IsCeiling, ceilings_with}
use Rattle.cert_checker.specs.Kept.{Kept, path_of}

-- with `s = 0` the ceilings stay; with `s > 0` there is the leaf's more
pub record HasLeaf (before : Option Ceilings) (line : ℕ) (value : ℤ) (s : ℕ) (after : Option Ceilings) : Type 0 where
  pub unbounding : s ≡ 0 → after ≡ before
  pub bounding : 0 < s → (height : ℤ) × IsCeiling value s height × (after ≡ Some (ceilings_with before line height))

-- a branch leaves the ceilings as they were, a leaf adds its own
abbrev pub HasLine : Contents → Kept → Line → Option Ceilings → Type 0
HasLine program before (Branch var) after = after ≡ before.ceilings
HasLine program before (Close end) after =
    HasLeaf before.ceilings (before.count + 1) (leaf_bound program (fixed_over before.variables before.turns) end) end.s after

-- one line more
pub record Moves (program : Contents) (before : Kept) (line : Line) (after : Kept) : Type 0 where
  pub variables : after.variables ≡ before.variables
  pub path : path_of after ≡ path_past (Some before.turns) line
  pub count : after.count ≡ before.count + 1
  pub ceilings : HasLine program before line after.ceilings

-- where the tree isn't whole: the line is taken and moves what is kept, or it is refused and nothing changes
abbrev pub MovesOrStays : Contents → Kept → Line → Kept → Result Step CertFault → Type 0
MovesOrStays program before line after (Ok step) =
    IsTakenUnder program (fixed_over before.variables before.turns) line
    × Moves program before line after
    × (step ≡ (if after.whole then Whole else More))
MovesOrStays program before line after (Err fault) =
    IsRefusedUnder program (fixed_over before.variables before.turns) (before.count + 1) line fault × (after ≡ before)

-- against a cost the least ceiling decides, against nothing there is none to be
abbrev pub IsVerdict : Ceilings → Goal → Result (Unit {0}) CertFault → Type 0
IsVerdict ceilings goal (Ok done) = (cost : ℕ) × (goal ≡ Cost cost) × (pos cost ≤ℤ ceilings.least)
IsVerdict ceilings goal (Err (Bounded line)) = (goal ≡ Nothing) × (line ≡ ceilings.first)
IsVerdict ceilings goal (Err (NotClosed line)) =
    (cost : ℕ) × (goal ≡ Cost cost) × (ceilings.least <ℤ pos cost) × (line ≡ ceilings.line)
IsVerdict ceilings goal (Err other) = ⊥
