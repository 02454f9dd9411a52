-- What the checker answers.
use Rattle.std.specs.Prelude.{◌≡◌, ℕ, ℤ, pos, ◌<ℤ◌, ◌↔◌, List, [], ◌∷◌, ◌++◌, Result, Ok, Err}
use Rattle.zero_one.specs.Contents.{Contents}
use Rattle.bound_cert.specs.declared.leaves.Line.{Line}
use Rattle.bound_cert.specs.declared.leaves.Goal.{Goal}
use Rattle.bound_cert.specs.declared.leaves.Goal.TheVariants.{Cost, Nothing}
use Rattle.bound_cert.specs.Trees.{IsProof}
use Rattle.cert_checker.specs.declared.faults.CertFault.{CertFault}
use Rattle.cert_checker.specs.declared.faults.CertFault.TheVariants.{NotClosed, TooShort, Bounded}
use Rattle.cert_checker.specs.declared.faults.Step.{Step}
use Rattle.cert_checker.specs.declared.faults.Step.TheVariants.{Whole}
use Rattle.cert_checker.specs.Lines.{IsTaken, IsRefused, IsWhole}
use Rattle.cert_checker.specs.Ceilings.{IsFirstBounding, IsLeastCeiling}
use Rattle.cert_checker.specs.Kept.{Kept, StandsFor}

-- the line is taken, and the tree is told whole exactly where it is; or it is refused on the first ground against it, and nothing changes
abbrev pub Feeds : Contents → List Line → Line → Kept → Kept → Result Step CertFault → Type 0
Feeds program lines line before after (Ok step) =
    IsTaken program lines line
    × StandsFor program (lines ++ line ∷ []) after
    × ((step ≡ Whole) ↔ IsWhole program (lines ++ line ∷ []))
Feeds program lines line before after (Err fault) = IsRefused program lines line fault × (after ≡ before)

-- the lines are a proof of the goal; or the tree isn't whole; or it is, and against nothing a leaf has `s > 0`, the first
-- of which is told, against a cost the least ceiling is below the cost, and the first leaf that has it is told
abbrev pub Finishes : Contents → List Line → Goal → Result (Unit {0}) CertFault → Type 0
Finishes program lines goal (Ok done) = IsProof program lines goal
Finishes program lines goal (Err TooShort) = ¬ IsWhole program lines
Finishes program lines goal (Err (Bounded line)) =
    IsWhole program lines × (goal ≡ Nothing) × IsFirstBounding lines line
Finishes program lines goal (Err (NotClosed line)) =
    IsWhole program lines
    × ((cost : ℕ) × (goal ≡ Cost cost) × ((ceiling : ℤ) × IsLeastCeiling program lines line ceiling × (ceiling <ℤ pos cost)))
Finishes program lines goal (Err other) = ⊥
