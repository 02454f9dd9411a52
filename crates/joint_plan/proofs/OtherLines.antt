-- Lines that were read in the place of others.
use Rattle.std.proofs.Common.{◌≡◌, ℕ, ◌+◌, Bool, true, false, List, ◌++◌, refl, subst, ◌∙◌, inl, inr}
use Rattle.std.specs.Prelude.{Option, IsTrue, ◌⊎◌, ◌↔◌, Ok}
use Rattle.span_base.specs.Files.{Files}
use Rattle.span_base.specs.declared.words.Cause.TheVariants.{Syntax, Policy}
use Rattle.shelf_lines.specs.Lines.{fed, Begins}
use Rattle.shelf_lines.proofs.Bytes.{Begins-front}
use Rattle.plan_check.specs.declared.fault.CheckFault.{CheckFault}
use Rattle.plan_check.specs.declared.fault.CheckFault.TheVariants.{Bad, Refused}
use Rattle.plan_check.specs.declared.lines.PlanLines.{PlanLines}
use Rattle.plan_check.specs.Reading.{HasRead, line_count}
use Rattle.plan_check.specs.Places.{Meets}
use Rattle.plan_check.proofs.Counting.{line_count-fed}
use Rattle.joint_plan.specs.Lines.{IsOtherRead, ReadsDue, RefusesByForm}

-- the file begins with what was read
pub begins_read : (files : Option Files) (name text : List ℕ) (reader : PlanLines) → HasRead files name text reader → Begins files name text
begins_read files name text reader read = Begins-front files name text reader.lines.ahead read.given.front

-- the number of a line that was read in the place of another
pub number_of_other : (files : Option Files) (name front due : List ℕ) (reader : PlanLines) → IsOtherRead files name front due reader → reader.number ≡ line_count front + 1
number_of_other files name front due reader other = other.read.number ∙ line_count-fed front reader.lines.line other.one

-- it is met there
pub other_met : (files : Option Files) (name front due : List ℕ) (reader : PlanLines) (Refuses : ℕ → List ℕ → CheckFault → Type 0) (fault : CheckFault) → IsOtherRead files name front due reader
    → Refuses reader.number reader.lines.line fault → Meets files name front (λ line told. (¬ (fed line ≡ due)) × Refuses (line_count front + 1) line told) fault
other_met files name front due reader Refuses fault other refuses = inr (
  reader.lines.line,
  other.one,
  begins_read files name (front ++ fed reader.lines.line) reader other.read,
  (other.other, subst (λ n. Refuses n reader.lines.line fault) (number_of_other files name front due reader other) refuses),
)

-- whether it was the one due
pub due_told : (files : Option Files) (name front due : List ℕ) (reader : PlanLines) (is_due b : Bool) → is_due ≡ b → ReadsDue files name front due reader (Ok is_due) → ReadsDue files name front due reader (Ok b)
due_told files name front due reader is_due b is reads = subst (λ (x : Bool). ReadsDue files name front due reader (Ok x)) is reads

-- a line that is neither of one form is refused by whether it is of the other
pub refuses_by : (Named Other : Type 0) (is : Bool) (number : ℕ) (fault : CheckFault) → ¬ Named → (IsTrue is ↔ Other) → (IsTrue is → fault ≡ Refused number Policy) → (¬ IsTrue is → fault ≡ Bad number Syntax)
    → RefusesByForm (Named ⊎ Other) number fault
refuses_by Named Other true number fault not_named tells place form = inl (inr (tells.0 refl), place refl)
refuses_by Named Other false number fault not_named tells place form = inr (
  (λ either. elim either [ inl named ↦ not_named named | inr other ↦ (let e = tells.1 other in cc) ]),
  form (λ e. cc),
)
