use Rattle.std.proofs.Common.{◌≡◌, ◌∷◌, map}
use Rattle.std.specs.List.{range_with_len}
use Rattle.placement_rows.specs.Rows.{plus, minus}
use Rattle.placement_relay.specs.Relay.{q}
use Rattle.placement_relay.proofs.hops.comes_from_somewhere.Given as goal

abbrev pub invariant-loop-p : goal.invariant-loop-p
invariant-loop-p l = l.entries.items ≡ minus l.d ∷ map (λ p. plus (q l.world l.set.0 l.a p l.d)) (range_with_len 0 l.p)
