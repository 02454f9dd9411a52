use Rattle.cloud_law.proofs.Steps.{stores_open, steps_take, refusals_take_none, taken_keep_registers}
use Rattle.cloud_law.proofs.law.steps_keep_registers.Goals as goal

pub returns-clause-opens : goal.returns-clause-opens
returns-clause-opens c = stores_open

pub returns-clause-takes : goal.returns-clause-takes
returns-clause-takes c = steps_take

pub returns-clause-refuses : goal.returns-clause-refuses
returns-clause-refuses c = refusals_take_none

pub returns-clause-registers : goal.returns-clause-registers
returns-clause-registers c = taken_keep_registers
