use Rattle.std.proofs.Common.{◌≡◌, ◌++◌, map, take}
use Rattle.std.specs.Prelude.{◌==◌}
use Rattle.std.specs.List.{flat_map}
use Rattle.placement_rows.specs.Centres.{centres}
use Rattle.placement_relay.proofs.placing.push_primaries.Given as goal

abbrev pub invariant-loop-near : goal.invariant-loop-near
invariant-loop-near l = l.bits.items ≡ l.initial.bits.items ++ flat_map (λ near. map (λ d. near.at.0 == d) (centres l.world)) (take l.near-index l.primary)
