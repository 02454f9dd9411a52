use Rattle.std.proofs.Common.{◌≡◌, ◌++◌, map}
use Rattle.std.specs.Prelude.{◌==◌}
use Rattle.std.specs.List.{range_with_len}
use Rattle.placement_relay.proofs.placing.push_primary.Given as goal

abbrev pub invariant-loop-d : goal.invariant-loop-d
invariant-loop-d l = l.bits.items ≡ l.initial.bits.items ++ map (λ d. l.primary.0 == d) (range_with_len 0 l.d)
