use Rattle.std.proofs.Common.{◌≡◌, ◌++◌, take}
use Rattle.std.specs.List.{flat_map}
use Rattle.placement_rows.specs.Centres.{centres}
use Rattle.placement_strong.specs.Rows.{writes_meet_within, numbered_pairs}
use Rattle.placement_strong.proofs.backed_rows.push_writes_meet_within.Given as goal

abbrev pub invariant-loop-pair : goal.invariant-loop-pair
invariant-loop-pair l = l.rows.items ≡ l.initial.rows.items ++ flat_map (λ p. flat_map (writes_meet_within l.world l.set.0 p) (centres l.world)) (take l.pair (numbered_pairs l.world l.set.0))
