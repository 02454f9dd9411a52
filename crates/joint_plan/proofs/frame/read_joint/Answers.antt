use Rattle.std.proofs.Common.{◌≡◌, List, ℕ, false, refl, ap, ◌∙◌, ◌++◌, subst}
use Rattle.joint_plan.specs.JointText.{joint_line}
use Rattle.joint_plan.specs.Lines.{RefusesProgram, IsOtherRead}
use Rattle.joint_plan.proofs.OtherLines.{due_told, other_met}
use Rattle.joint_plan.proofs.frame.read_joint.Goals as goal

pub returns-clause-reads : goal.returns-clause-reads
returns-clause-reads g c files is front first =
    let reader = c.read_due.new.lines in
    let due_is : c.as_bytes.result.now ≡ joint_line c.args.variables = c.as_bytes.ensures.value ∙ c.in_ok-push_joint.ensures ∙ ap (λ (t : List ℕ). t ++ joint_line c.args.variables) c.new-due.ensures.bytes in
    let other = due_told files c.args.name.now front c.as_bytes.result.now reader c.in_ok-is_due.is_due false c.if-is_due.false (c.in_ok-is_due.ensures.reads files is front first) in
    other_met files c.args.name.now front (joint_line c.args.variables) reader RefusesProgram _ (subst (λ (t : List ℕ). IsOtherRead files c.args.name.now front t reader) due_is other) refl
