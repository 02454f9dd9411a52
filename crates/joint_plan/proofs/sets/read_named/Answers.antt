use Rattle.std.proofs.Common.{◌≡◌, List, ℕ, false, ap, ◌∙◌, ◌++◌, subst}
use Rattle.joint_plan.specs.JointText.{named_line}
use Rattle.joint_plan.specs.Lines.{RefusesPlanLine, IsOtherRead}
use Rattle.joint_plan.proofs.OtherLines.{due_told, other_met}
use Rattle.joint_plan.proofs.sets.read_named.Goals as goal

pub returns-clause-reads : goal.returns-clause-reads
returns-clause-reads g c files is front first =
    let w = c.args.world.now in
    let reader = c.read_due.new.lines in
    let due_is : c.as_bytes.result.now ≡ named_line w c.args.set.0 = c.as_bytes.ensures.value ∙ c.in_ok-push_named.ensures ∙ ap (λ (t : List ℕ). t ++ named_line w c.args.set.0) c.new-due.ensures.bytes in
    let other = due_told files c.args.name.now front c.as_bytes.result.now reader c.in_ok-is_due.is_due false c.if-is_due.false (c.in_ok-is_due.ensures.reads files is front first) in
    let refuses = subst (λ (t : List ℕ). RefusesPlanLine w reader.number t c.in_ok-fault.fault) c.line.ensures c.in_ok-fault.ensures in
    other_met files c.args.name.now front (named_line w c.args.set.0) reader (RefusesPlanLine w) _ (subst (λ (t : List ℕ). IsOtherRead files c.args.name.now front t reader) due_is other) refuses
