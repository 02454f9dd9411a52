use Rattle.std.proofs.Common.{refl}
use Rattle.workload.proofs.Keeping.{loaded_none}
use Rattle.workload.proofs.load.Workload.make.Goals as goal

pub invariant_of-result : goal.invariant_of-result
invariant_of-result c = rw (c.new.ensures.empty, c.new-2.ensures.items) (refl, loaded_none)
