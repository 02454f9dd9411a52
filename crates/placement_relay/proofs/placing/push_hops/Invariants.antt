use Rattle.std.proofs.Common.{◌≡◌, ◌++◌, take}
use Rattle.placement_relay.specs.Placed.{hop_bits}
use Rattle.placement_relay.proofs.placing.push_hops.Given as goal

abbrev pub invariant-loop-hop : goal.invariant-loop-hop
invariant-loop-hop l = l.bits.items ≡ l.fn.bits.items ++ hop_bits l.world l.fn.set.0 (take l.hop-index l.hops)
