use Rattle.std.proofs.Common.{map, take}
use Rattle.world_text.specs.Records.{centre_record}
use Rattle.world_text.specs.Written.{Adds}
use Rattle.world_text.proofs.print.print_centres.Given as goal

abbrev pub invariant-loop-dc : goal.invariant-loop-dc
invariant-loop-dc l = Adds l.fn.text l.text (map centre_record (take l.dc l.world.centres))
