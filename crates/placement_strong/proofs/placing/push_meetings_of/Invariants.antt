use Rattle.std.proofs.Common.{◌≡◌, ◌++◌, take}
use Rattle.std.specs.List.{flat_map}
use Rattle.placement_strong.specs.Placed.{set_bits}
use Rattle.span_base.specs.DcSet.{meet}
use Rattle.placement_strong.proofs.placing.push_meetings_of.Given as goal

abbrev pub invariant-loop-writer : goal.invariant-loop-writer
invariant-loop-writer l = l.bits.items ≡ l.initial.bits.items ++ flat_map (λ p. set_bits l.world (meet l.read p.write)) (take l.writer-index l.quorums)
