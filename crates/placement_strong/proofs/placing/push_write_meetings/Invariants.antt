use Rattle.std.proofs.Common.{◌≡◌, ◌++◌, take}
use Rattle.std.specs.List.{flat_map}
use Rattle.placement_strong.specs.Placed.{write_meeting_bits}
use Rattle.placement_strong.proofs.placing.push_write_meetings.Given as goal

abbrev pub invariant-loop-pair : goal.invariant-loop-pair
invariant-loop-pair l = l.bits.items ≡ l.initial.bits.items ++ flat_map (write_meeting_bits l.world l.quorums) (take l.pair-index l.pairs)
