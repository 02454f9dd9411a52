use Rattle.std.proofs.Common.{◌∙◌, ◌++◌, inl, inr, subst}
use Rattle.std.specs.Prelude.{Result, Ok, Err}
use Rattle.std.proofs.lemmas.Result.{err_from_is_err_and}
use Rattle.span_base.specs.declared.policy.Policy.{Policy}
use Rattle.slo_rules.specs.declared.policy_line.PolicyFault.{PolicyFault}
use Rattle.plan_check.specs.Parts.{ReadsPolicyLines}
use Rattle.joint_plan.specs.JointText.{named_line}
use Rattle.joint_plan.specs.Lines.{RefusesPolicyLine}
use Rattle.joint_plan.proofs.PlanRead.{set_read, policy_line_refused, policy_shift}
use Rattle.joint_plan.proofs.sets.read_set.Goals as goal

pub returns-in_err-read_named-clause-reads : goal.returns-in_err-read_named-clause-reads
returns-in_err-read_named-clause-reads g c files is front first =
    let p = err_from_is_err_and c.from_residual.result c.from_residual.ensures.1 in
    rw (p.1, p.2) (inl (c.in_err-read_named.ensures.reads files is front first))

pub returns-in_err-read-clause-reads : goal.returns-in_err-read-clause-reads
returns-in_err-read-clause-reads g c files is front first =
    let w = c.args.world.now in
    let p = err_from_is_err_and c.from_residual-in_err-read.result c.from_residual-in_err-read.ensures.1 in
    let same = c.in_ok-read_named.ensures.files_stay ∙ is in
    let named = c.in_ok-read_named.ensures.reads files is front first in
    rw (p.1, p.2) (inr (inl (policy_shift w c.args.set.0 files _ c.args.name.now c.read_named.new.lines c.read_policy_lines.new.lines (Err c.in_err-read.field-0.0) same c.in_err-read.ensures.reads (front ++ named_line w c.args.set.0) named)))

pub returns-in-Ok-clause-reads : goal.returns-in-Ok-clause-reads
returns-in-Ok-clause-reads g c files is front first =
    let w = c.args.world.now in
    let set = c.args.set.0 in
    let name = c.args.name.now in
    let reader = c.read_policy_lines.new.lines in
    let same = c.in_ok-read_named.ensures.files_stay ∙ is in
    let named = c.in_ok-read_named.ensures.reads files is front first in
    let read = policy_shift w set files _ name c.read_named.new.lines reader (Ok c.in_ok-read.read) same c.in_ok-read.ensures.reads (front ++ named_line w set) named in
    let found = subst (λ (r : Result Policy PolicyFault). ReadsPolicyLines w set files name (front ++ named_line w set) reader (Ok r)) c.in-Ok.is read in
    set_read w set files name front reader c.in-Ok.policy c.centre_count-centres.ensures.complete found

pub returns-in-Err-clause-reads : goal.returns-in-Err-clause-reads
returns-in-Err-clause-reads g c files is front first =
    let w = c.args.world.now in
    let set = c.args.set.0 in
    let name = c.args.name.now in
    let reader = c.read_policy_lines.new.lines in
    let same = c.in_ok-read_named.ensures.files_stay ∙ is in
    let named = c.in_ok-read_named.ensures.reads files is front first in
    let read = policy_shift w set files _ name c.read_named.new.lines reader (Ok c.in_ok-read.read) same c.in_ok-read.ensures.reads (front ++ named_line w set) named in
    let found = subst (λ (r : Result Policy PolicyFault). ReadsPolicyLines w set files name (front ++ named_line w set) reader (Ok r)) c.in-Err.is read in
    let refuses = subst (λ t. RefusesPolicyLine c.in-Err.fault reader.number t c.refuse_policy_line.result) c.line.ensures c.refuse_policy_line.ensures in
    inr (inr (policy_line_refused w set files name (front ++ named_line w set) reader c.in-Err.fault c.refuse_policy_line.result found refuses))
