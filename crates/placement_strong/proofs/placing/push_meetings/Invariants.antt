use Rattle.std.proofs.Common.{◌≡◌, ◌++◌, take}
use Rattle.std.specs.List.{flat_map}
use Rattle.placement_strong.specs.Placed.{set_bits}
use Rattle.span_base.specs.DcSet.{meet}
use Rattle.placement_strong.proofs.placing.push_meetings.Given as goal

abbrev pub invariant-loop-reader : goal.invariant-loop-reader
invariant-loop-reader l = l.bits.items ≡ l.initial.bits.items ++ flat_map (λ q. flat_map (λ p. set_bits l.world (meet q.read p.write)) l.quorums) (take l.reader-index l.quorums)
