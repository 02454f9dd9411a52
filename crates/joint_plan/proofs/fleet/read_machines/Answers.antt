use Rattle.std.proofs.Common.{subst}
use Rattle.plan_check.proofs.Stops.{next_line}
use Rattle.joint_plan.specs.Lines.{RefusesPlanLine}
use Rattle.joint_plan.specs.Stops.{SaysMachines}
use Rattle.joint_plan.proofs.Numbers.{machines_met}
use Rattle.joint_plan.proofs.fleet.read_machines.Goals as goal

pub returns-in_ok-fault-in-None-clause-reads : goal.returns-in_ok-fault-in-None-clause-reads
returns-in_ok-fault-in-None-clause-reads g c files is front first =
    let w = c.args.world.now in
    let name = c.args.name.now in
    let reader = c.next.new.self in
    let here = next_line files (g.S.Shelf.files c.args.shelf.now) name front c.args.lines.now reader is c.in_ok-next.ensures.reads first in
    machines_met w c.args.dc.0 files name front reader c.in_ok-told.told c.in_ok-fault-in-None.fault here c.in-None.is
    (subst (λ t. SaysMachines w c.args.dc.0 t c.in_ok-told.told) c.line.ensures c.in_ok-told.ensures)
    (subst (λ t. RefusesPlanLine w reader.number t c.in_ok-fault-in-None.fault) c.line-in-None.ensures c.in_ok-fault-in-None.ensures)
