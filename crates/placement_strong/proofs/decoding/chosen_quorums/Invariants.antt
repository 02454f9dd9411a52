use Rattle.std.proofs.Common.{◌≡◌, map}
use Rattle.std.specs.List.{range_with_len}
use Rattle.placement_strong.specs.Placed.{chosen_quorum}
use Rattle.placement_strong.proofs.decoding.chosen_quorums.Given as goal

abbrev pub invariant-loop-a : goal.invariant-loop-a
invariant-loop-a l = l.quorums ≡ map (chosen_quorum l.world l.set.0 l.x) (range_with_len 0 l.a)
