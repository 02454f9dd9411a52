use Rattle.std.proofs.Common.{map, take}
use Rattle.workload.specs.World.{set_of, members_of}
use Rattle.world_text.specs.Records.{use_record}
use Rattle.world_text.specs.Written.{Adds}
use Rattle.world_text.proofs.print.print_members_of.Given as goal

abbrev pub invariant-loop-member : goal.invariant-loop-member
invariant-loop-member l =
    Adds l.fn.text l.text (map (use_record l.world (set_of l.world l.set.0)) (take l.member-index (members_of l.world l.set.0)))
