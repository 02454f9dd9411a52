-- What a line of a joint plan's file says where another is due, and how it is refused. A line is told
-- without its line feed.
use Rattle.std.specs.Prelude.{◌≡◌, ℕ, ◌+◌, ◌<◌, ◌⊎◌, Bool, true, false, List, ◌++◌, codes, length, Option, Result, Ok, Err}
use Rattle.span_base.specs.Name.{IsName}
use Rattle.span_base.specs.Number.{IsNumber}
use Rattle.span_base.specs.Files.{Files}
use Rattle.span_base.specs.declared.words.Cause.TheVariants.{Syntax, Policy, Set}
use Rattle.shelf_lines.specs.Lines.{IsLine, fed}
use Rattle.workload.specs.World.{Lists}
use Rattle.slo_rules.specs.PolicyReading.{blank, step}
use Rattle.slo_rules.specs.declared.policy_line.PolicyFault.{PolicyFault}
use Rattle.slo_rules.specs.declared.policy_line.PolicyFault.TheVariants as policy
use Rattle.plan_check.specs.declared.fault.CheckFault.{CheckFault}
use Rattle.plan_check.specs.declared.fault.CheckFault.TheVariants.{Bad, Refused}
use Rattle.plan_check.specs.declared.lines.PlanLines.{PlanLines}
use Rattle.plan_check.specs.Reading.{HasRead, Lacks, line_count}
use Rattle.plan_check.specs.Places.{Meets}
use Rattle.plan_check.specs.Words.{IsPairOf}

-- the next line isn't this one
pub record IsOtherRead (files : Option Files) (name front due : List ℕ) (reader : PlanLines) : Type 0 where
  pub one : IsLine reader.lines.line
  pub other : ¬ (fed reader.lines.line ≡ due)
  pub read : HasRead files name (front ++ fed reader.lines.line) reader

-- whether the next line is this one
abbrev pub ReadsDue : Option Files → List ℕ → List ℕ → List ℕ → PlanLines → Result Bool CheckFault → Type 0
ReadsDue files name front due reader (Ok true) = HasRead files name (front ++ due) reader
ReadsDue files name front due reader (Ok false) = IsOtherRead files name front due reader
ReadsDue files name front due reader (Err fault) = Lacks files name front fault

-- the next line is this one, or another one, which is refused so by its number in the file
abbrev pub ReadsExact : Option Files → List ℕ → List ℕ → List ℕ → (ℕ → List ℕ → CheckFault → Type 0) → PlanLines → Result (Unit {0}) CheckFault → Type 0
ReadsExact files name front due Refuses reader (Ok done) = HasRead files name (front ++ due) reader
ReadsExact files name front due Refuses reader (Err fault) =
    Meets files name front (λ line told. (¬ (fed line ≡ due)) × Refuses (line_count front + 1) line told) fault

-- as of no form that is allowed there, or as another program's
abbrev pub RefusesForm : ℕ → List ℕ → CheckFault → Type 0
RefusesForm number line told = told ≡ Bad number Syntax

abbrev pub RefusesProgram : ℕ → List ℕ → CheckFault → Type 0
RefusesProgram number line told = told ≡ Refused number Set

-- a line names a set, or tells the machines of a centre, whether or not the world has it
abbrev pub IsNamedForm : List ℕ → Type 0
IsNamedForm line = (rest : List ℕ) × (line ≡ codes "set " ++ rest) × IsName rest

abbrev pub IsMachinesForm : List ℕ → Type 0
IsMachinesForm line = (rest : List ℕ) × (line ≡ codes "machines " ++ rest) × IsPairOf IsName IsNumber rest

abbrev pub IsNamedOrMachines : List ℕ → Type 0
IsNamedOrMachines line = IsNamedForm line ⊎ IsMachinesForm line

-- a line is of the form of a policy's: as the first one of a set it isn't refused for its form
abbrev pub IsPolicyForm : Lists → List ℕ → Type 0
IsPolicyForm w line = (0 < length w.sets) × ((place : ℕ) → ¬ (step w (blank 0) line ≡ Err (policy.Bad place)))

-- a line is of a form that stands among the policies and the machines
abbrev pub IsPlanForm : Lists → List ℕ → Type 0
IsPlanForm w line = IsNamedOrMachines line ⊎ IsPolicyForm w line

-- a line out of place there is refused as such, and one of no such form as that
abbrev pub RefusesByForm : Type 0 → ℕ → CheckFault → Type 0
RefusesByForm Form number told = (Form × (told ≡ Refused number Policy)) ⊎ ((¬ Form) × (told ≡ Bad number Syntax))

abbrev pub RefusesPlanLine : Lists → ℕ → List ℕ → CheckFault → Type 0
RefusesPlanLine w number line told = RefusesByForm (IsPlanForm w line) number told

-- so is a line that isn't the one due of a policy; one of a policy's form has its fault from the policy
abbrev pub RefusesPolicyLine : PolicyFault → ℕ → List ℕ → CheckFault → Type 0
RefusesPolicyLine (policy.Bad place) number line told = RefusesByForm (IsNamedOrMachines line) number told
RefusesPolicyLine other number line told = told ≡ Refused number Policy
