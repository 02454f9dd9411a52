use Rattle.std.proofs.Common.{◌≡◌, ◌++◌, ◌-◌, List}
use Rattle.span_base.specs.declared.policy.Hop.{Hop}
use Rattle.span_base.specs.declared.policy.Near.{Near}
use Rattle.wire_msg.specs.Faults.{many_at, lane_at, nears_of, hops_of}
use Rattle.wire_msg.proofs.Loops.{behind}
use Rattle.wire_msg.proofs.reader.Reader.lanes.Given as goal

abbrev pub invariant-loop : goal.invariant-loop
invariant-loop l =
    (lanes : List (Near × List Hop))
    × (l.nears ≡ nears_of lanes)
    × (l.hops ≡ l.fn.hops ++ hops_of lanes)
    × (behind lanes (many_at (lane_at l.replicas) (l.count - l.counter) l.self.rest.now) ≡ many_at (lane_at l.replicas) l.count l.fn.self.rest.now)
