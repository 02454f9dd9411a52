use Rattle.std.proofs.Common.{subst}
use Rattle.machine_text.specs.ReadMachines.{Reads, machines_in}
use Rattle.machine_text.proofs.read.read_machines.Goals as goal

pub returns : goal.returns
returns c = subst (λ rs. Reads (machines_in c.args.world.now rs) c.take_all.result) c.rows_of-rows.ensures.all c.take_all.ensures
