use Rattle.std.proofs.Common.{map, take}
use Rattle.std.specs.List.{flat_map}
use Rattle.world_text.specs.Records.{use_record}
use Rattle.world_text.specs.Written.{Adds}
use Rattle.world_text.proofs.print.print_members.Given as goal

abbrev pub invariant-loop-set : goal.invariant-loop-set
invariant-loop-set l = Adds l.fn.text l.text (flat_map (λ s. map (use_record l.world s) s.members) (take l.set l.world.sets))
