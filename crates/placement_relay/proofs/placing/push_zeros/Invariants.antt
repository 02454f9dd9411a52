use Rattle.std.proofs.Common.{◌≡◌, ◌++◌, false, replicate}
use Rattle.placement_relay.proofs.placing.push_zeros.Given as goal

abbrev pub invariant-loop-i : goal.invariant-loop-i
invariant-loop-i l = l.bits.items ≡ l.initial.bits.items ++ replicate l._i false
