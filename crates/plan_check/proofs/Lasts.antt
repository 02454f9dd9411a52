-- What the end of the file gives behind a plan's last line.
use Rattle.std.proofs.Common.{◌≡◌, ℕ, ◌≤◌, List, ◌++◌, subst, inr, arith, codes}
use Rattle.std.specs.Prelude.{Option, Result, Ok, Err}
use Rattle.span_base.specs.Files.{Files}
use Rattle.plan_check.specs.declared.fault.CheckFault.{CheckFault}
use Rattle.plan_check.specs.declared.lines.PlanLines.{PlanLines}
use Rattle.plan_check.specs.Reading.{HasRead, Ends}
use Rattle.plan_check.specs.Plans.{ReadsEnd}

last_by : (files : Option Files) (name text : List ℕ) (reader : PlanLines) (r : Result (Unit {0}) CheckFault) → Ends files name (text ++ codes "end\n") r
    → HasRead files name (text ++ codes "end\n") reader → reader.lines.given ≤ 4294967295 → ReadsEnd files name text r
last_by files name text reader (Ok done) ends read small = (ends, omega (arith, read.given.count))
last_by files name text reader (Err fault) ends read small = inr ends

pub read_last : (files now : Option Files) (name text : List ℕ) (reader : PlanLines) (r : Result (Unit {0}) CheckFault) → now ≡ files
    → ((t : List ℕ) → HasRead now name t reader → Ends now name t r) → HasRead files name (text ++ codes "end\n") reader → reader.lines.given ≤ 4294967295
    → ReadsEnd files name text r
read_last files now name text reader r same ends read small =
    let here : HasRead files name (text ++ codes "end\n") reader → Ends files name (text ++ codes "end\n") r =
    subst (λ (f : Option Files). HasRead f name (text ++ codes "end\n") reader → Ends f name (text ++ codes "end\n") r) same (ends (text ++ codes "end\n")) in
    last_by files name text reader r (here read) read small
