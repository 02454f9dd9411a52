use Rattle.std.proofs.Common.{subst}
use Rattle.std.proofs.lemmas.Result.{err_from_is_err_and}
use Rattle.zero_one.specs.Program.{IsWithinLimits}
use Rattle.joint_plan.proofs.Refusing.{refused, unwritten, sink_failed}
use Rattle.joint_plan.proofs.plan.plan_joint.Goals as goal

pub returns-in_err-program-clause-writes : goal.returns-in_err-program-clause-writes
returns-in_err-program-clause-writes g c =
    let p = err_from_is_err_and c.from_residual.result c.from_residual.ensures.1 in
    rw (p.1, p.2) (refused c.args.world.now c.args.machines.now c.args.budget _ c.in_err-program.field-0.0 c.in_err-program.ensures.fault)

pub returns-in_err-end-clause-writes : goal.returns-in_err-end-clause-writes
returns-in_err-end-clause-writes g c =
    let p = err_from_is_err_and c.from_residual-in_err-end.result c.from_residual-in_err-end.ensures.1 in
    rw (p.1, p.2) (unwritten c.args.world.now c.args.machines.now c.args.budget _ _ c.in_err-end.field-0.0 (subst IsWithinLimits c.in_ok-program.ensures.program c.costs-variables.ensures.within) c.in_err-end.ensures.writes)

pub returns-in_err-end-clause-failed : goal.returns-in_err-end-clause-failed
returns-in_err-end-clause-failed g c =
    let p = err_from_is_err_and c.from_residual-in_err-end.result c.from_residual-in_err-end.ensures.1 in
    rw (p.1, p.2) (sink_failed _ _ c.in_err-end.field-0.0 c.in_err-end.ensures.failed)
