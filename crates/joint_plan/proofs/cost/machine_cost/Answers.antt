use Rattle.std.proofs.Common.{◌<◌, ◌^◌, ◌*◌, subst, sym, ap, arith}
use Rattle.machine_text.specs.declared.machines.Machine.{Machine}
use Rattle.joint_plan.proofs.Costs.{few-cost}
use Rattle.joint_plan.proofs.cost.machine_cost.Goals as goal

pub returns-clause-small : goal.returns-clause-small
returns-clause-small c =
    let few = subst (λ (m : Machine). c.args.number < 2 ^ m.digits) (sym c.machine-machine.ensures.machine) c.requires in
    omega (arith, few-cost c.machine-machine.result c.args.number c.machine-machine.ensures.within few, ap (λ n. c.args.number * n) c.from.ensures)
