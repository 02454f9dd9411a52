use Rattle.epoch_directory.proofs.LeastFault.{right_more}
use Rattle.epoch_directory.proofs.directory.Directory.table_fault.Goals as goal

pub loop-number-preserved : goal.loop-number-preserved
loop-number-preserved c = right_more c.args.self.now c.args.table.now c.loop-number.number c.loop-number.invariant c.in_default.ensures
