use Rattle.std.proofs.Common.{rules}
use Rattle.workload.proofs.Worlds.{world_complete}
use Rattle.workload.proofs.world.World.make.Goals as goal

pub invariant_of-result : goal.invariant_of-result
invariant_of-result c = (search rules, search (rules, world_complete))
