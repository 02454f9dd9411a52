use Rattle.std.proofs.Common.{◌≡◌, map, ◌++◌, take}
use Rattle.std.specs.List.{flat_map}
use Rattle.span_base.specs.Policy.{lane_of, lanes_of}
use Rattle.span_base.proofs.hops.have_lanes.Given as goal

abbrev pub invariant-loop-near : goal.invariant-loop-near
invariant-loop-near l = map lane_of l.hops ≡ flat_map (λ n. lanes_of l.replicas n.member.0) (take l.near-index l.primary) ++ map lane_of l.rest
