use Rattle.restart_law.proofs.Registers.{unlimited_registers}
use Rattle.restart_law.proofs.law.unlimited_registers_are_kept.Goals as goal

pub returns : goal.returns
returns c = unlimited_registers
