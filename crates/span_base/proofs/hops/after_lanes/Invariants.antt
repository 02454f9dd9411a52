use Rattle.std.proofs.Common.{◌≡◌, map, ◌++◌}
use Rattle.span_base.specs.Policy.{lane_of}
use Rattle.span_base.proofs.Lanes.{lanes_below}
use Rattle.span_base.proofs.hops.after_lanes.Given as goal

abbrev pub invariant-loop-centre : goal.invariant-loop-centre
invariant-loop-centre l = map lane_of l.hops ≡ lanes_below l.replicas l.member.0 l.centre ++ map lane_of l.rest
