-- The number of machines that a line tells.
use Rattle.std.proofs.Common.{◌≡◌, ℕ, ◌+◌, List, ◌++◌, sym, ap, subst, ◌∙◌, inr}
use Rattle.std.specs.Prelude.{Option, Some, None}
use Rattle.std.specs.Fmt.{decimal}
use Rattle.span_base.specs.Number.{IsNumber}
use Rattle.span_base.proofs.Spelling.{decimal_reads}
use Rattle.bound_cert.proofs.Numbers.{decimal-number_of}
use Rattle.slo_rules.proofs.ToldApart.{same_after}
use Rattle.span_base.specs.Files.{Files}
use Rattle.shelf_lines.specs.Lines.{fed}
use Rattle.plan_check.specs.declared.fault.CheckFault.{CheckFault}
use Rattle.plan_check.specs.declared.lines.PlanLines.{PlanLines}
use Rattle.plan_check.specs.Reading.{IsLineRead, line_count}
use Rattle.plan_check.proofs.Counting.{line_count-fed}
use Rattle.joint_plan.specs.Lines.{RefusesPlanLine}
use Rattle.joint_plan.proofs.OtherLines.{begins_read}
use Rattle.workload.specs.World.{Lists}
use Rattle.plan_check.specs.Words.{IsNumberIn}
use Rattle.plan_check.proofs.Forms.{same_front}
use Rattle.joint_plan.specs.JointText.{machines_words, machines_line}
use Rattle.joint_plan.specs.Stops.{SaysMachines, StopsAtMachines}

-- digits behind the words tell their number
pub says_machines : (w : Lists) (d : ℕ) (line digits : List ℕ) (r : Option ℕ) → line ≡ machines_words w d ++ digits → IsNumberIn digits r → SaysMachines w d line r
unfolding machines_line
says_machines w d line digits None is faulty = (λ count low same.
    let whole : line ≡ machines_words w d ++ decimal count = same_front line (machines_words w d ++ decimal count) 10 10 same in
    let tails : digits ≡ decimal count = same_after (machines_words w d) digits (decimal count) (sym is ∙ whole) in
    faulty (subst IsNumber (sym tails) (decimal_reads count low).0))
says_machines w d line digits (Some n) is numbered =
    let spelled : digits ≡ decimal n = sym (ap decimal numbered.1 ∙ decimal-number_of digits numbered.0) in
    ap fed (is ∙ ap (λ (t : List ℕ). machines_words w d ++ t) spelled)

-- a line that doesn't begin with the words tells none
pub says_none : (w : Lists) (d : ℕ) (line : List ℕ) → ((rest : List ℕ) → ¬ (line ≡ machines_words w d ++ rest)) → SaysMachines w d line None
unfolding machines_line
says_none w d line other = (λ count low same. other (decimal count) (same_front line (machines_words w d ++ decimal count) 10 10 same))

-- another line than one that tells a centre's machines is met
pub machines_met : (w : Lists) (d : ℕ) (files : Option Files) (name front : List ℕ) (reader : PlanLines) (told : Option ℕ) (fault : CheckFault) → IsLineRead files name front reader
    → told ≡ None → SaysMachines w d reader.lines.line told → RefusesPlanLine w reader.number reader.lines.line fault → StopsAtMachines w d files name front fault
machines_met w d files name front reader told fault here none says refuses =
    let line = reader.lines.line in
    let number : reader.number ≡ line_count front + 1 = here.read.number ∙ line_count-fed front line here.line in
    inr (
      line,
      here.line,
      begins_read files name (front ++ fed line) reader here.read,
      (subst (SaysMachines w d line) none says, subst (λ n. RefusesPlanLine w n line fault) number refuses),
    )
