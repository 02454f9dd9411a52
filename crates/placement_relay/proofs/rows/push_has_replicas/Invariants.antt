use Rattle.std.proofs.Common.{◌≡◌, ◌++◌, map, take}
use Rattle.span_base.specs.DcSet.{centres_of}
use Rattle.placement_relay.specs.Reading.{has_replicas}
use Rattle.placement_relay.proofs.rows.push_has_replicas.Given as goal

abbrev pub invariant-loop-near : goal.invariant-loop-near
invariant-loop-near l = l.rows.items ≡ l.initial.rows.items ++ map (λ near. has_replicas l.world l.set.0 (centres_of near)) (take l.near-index l.near_sets)
