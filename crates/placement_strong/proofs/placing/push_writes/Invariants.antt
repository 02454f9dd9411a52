use Rattle.std.proofs.Common.{◌≡◌, ◌++◌, take}
use Rattle.std.specs.List.{flat_map}
use Rattle.placement_strong.specs.Placed.{set_bits}
use Rattle.placement_strong.proofs.placing.push_writes.Given as goal

abbrev pub invariant-loop-q : goal.invariant-loop-q
invariant-loop-q l = l.bits.items ≡ l.initial.bits.items ++ flat_map (λ q. set_bits l.world q.write) (take l.q-index l.quorums)
