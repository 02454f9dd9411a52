use Rattle.std.proofs.Common.{map, take}
use Rattle.world_text.specs.Records.{set_record}
use Rattle.world_text.specs.Written.{Adds}
use Rattle.world_text.proofs.print.print_sets.Given as goal

abbrev pub invariant-loop-set : goal.invariant-loop-set
invariant-loop-set l = Adds l.fn.text l.text (map (set_record l.version) (take l.set l.world.sets))
