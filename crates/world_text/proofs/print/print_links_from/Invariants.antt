use Rattle.std.proofs.Common.{map, take}
use Rattle.std.specs.List.{range_with_len}
use Rattle.workload.specs.World.{centre_count, fare_of}
use Rattle.workload.specs.World.{name_of}
use Rattle.world_text.specs.Records.{link_record}
use Rattle.world_text.specs.Written.{Adds}
use Rattle.world_text.proofs.print.print_links_from.Given as goal

abbrev pub invariant-loop-to : goal.invariant-loop-to
invariant-loop-to l =
    Adds l.fn.text l.text (map (λ to. link_record (name_of l.world l.from.0) (name_of l.world to) (fare_of l.world l.from.0 to)) (take l.to (range_with_len 0 (centre_count l.world))))
