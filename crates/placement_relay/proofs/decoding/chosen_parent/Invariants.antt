use Rattle.std.proofs.Common.{◌≡◌, ◌-◌}
use Rattle.std.specs.List.{find, range_with_len}
use Rattle.workload.specs.World.{centre_count}
use Rattle.zero_one.specs.Rows.{bit_of}
use Rattle.placement_rows.specs.Centres.{centres}
use Rattle.placement_relay.specs.Relay.{q}
use Rattle.placement_relay.proofs.decoding.chosen_parent.Given as goal

abbrev pub invariant-loop-p : goal.invariant-loop-p
invariant-loop-p l = find (λ p. bit_of l.x (q l.world l.set.0 l.a p l.d)) (centres l.world) ≡ find (λ p. bit_of l.x (q l.world l.set.0 l.a p l.d)) (range_with_len l.p (centre_count l.world - l.p))
