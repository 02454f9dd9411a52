use Rattle.std.proofs.Common.{take}
use Rattle.std.specs.List.{flat_map, range_with_len}
use Rattle.workload.specs.World.{centre_count}
use Rattle.world_text.specs.Records.{links_from}
use Rattle.world_text.specs.Written.{Adds}
use Rattle.world_text.proofs.print.print_links.Given as goal

abbrev pub invariant-loop-from : goal.invariant-loop-from
invariant-loop-from l = Adds l.fn.text l.text (flat_map (links_from l.world) (take l.from (range_with_len 0 (centre_count l.world))))
