use Rattle.std.proofs.Common.{subst}
use Rattle.std.proofs.lemmas.Result.{err_from_is_err_and}
use Rattle.zero_one.specs.Program.{IsWithinLimits}
use Rattle.joint_plan.proofs.Judged.{text_stops, fault_same}
use Rattle.joint_plan.proofs.check.check_joint.Goals as goal

pub returns-in_err-told-clause-checks : goal.returns-in_err-told-clause-checks
returns-in_err-told-clause-checks g c =
    let p = err_from_is_err_and c.from_residual-in_err-told.result c.from_residual-in_err-told.ensures.1 in
    rw (p.1, p.2) (text_stops c.args.world.now c.args.machines.now _ c.args.name.now _ c.in_err-told.field-0.0 (subst IsWithinLimits c.in_ok-program.ensures.program c.costs-variables.ensures.within) c.in_err-told.ensures.reads)

pub returns-in_err-told-clause-read_fault : goal.returns-in_err-told-clause-read_fault
returns-in_err-told-clause-read_fault g c =
    let p = err_from_is_err_and c.from_residual-in_err-told.result c.from_residual-in_err-told.ensures.1 in
    rw (p.1, p.2) (λ is. c.in_err-told.ensures.failed (fault_same _ _ is))

pub returns-in_err-told-clause-absent : goal.returns-in_err-told-clause-absent
returns-in_err-told-clause-absent g c =
    let p = err_from_is_err_and c.from_residual-in_err-told.result c.from_residual-in_err-told.ensures.1 in
    rw (p.1, p.2) (λ is. c.in_err-told.ensures.absent (fault_same _ _ is))

pub returns-in_err-told-clause-write_fault : goal.returns-in_err-told-clause-write_fault
returns-in_err-told-clause-write_fault g c =
    let p = err_from_is_err_and c.from_residual-in_err-told.result c.from_residual-in_err-told.ensures.1 in
    rw (p.1, p.2) (λ is. absurd (c.in_err-told.ensures.unwritten (fault_same _ _ is)))
