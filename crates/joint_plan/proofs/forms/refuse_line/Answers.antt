use Rattle.joint_plan.specs.Lines.{IsNamedOrMachines, IsPolicyForm}
use Rattle.joint_plan.proofs.OtherLines.{refuses_by}
use Rattle.joint_plan.proofs.forms.refuse_line.Goals as goal

pub returns : goal.returns
returns c =
    refuses_by (IsNamedOrMachines c.args.line.now) (IsPolicyForm c.args.world.now c.args.line.now) c.in_ok-is_policy.is_policy c.args.number c.refused-2.result
    (λ named. let e = c.if-is_named_or_machines.ensures.1 named in cc) c.in_ok-is_policy.ensures c.refused-2.ensures.place c.refused-2.ensures.form
