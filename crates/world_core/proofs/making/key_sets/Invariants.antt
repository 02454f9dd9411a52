use Rattle.std.proofs.Common.{◌≡◌, map, take}
use Rattle.world_core.specs.State.{key_set}
use Rattle.world_core.proofs.making.key_sets.Given as goal

abbrev pub invariant-loop-set : goal.invariant-loop-set
invariant-loop-set l = l.keys.items ≡ map key_set (take l.set-index l.sets)
