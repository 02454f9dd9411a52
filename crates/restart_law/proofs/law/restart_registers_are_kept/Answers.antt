use Rattle.restart_law.proofs.Running.{restart_registers}
use Rattle.restart_law.proofs.law.restart_registers_are_kept.Goals as goal

pub returns : goal.returns
returns c = restart_registers
