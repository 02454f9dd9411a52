use Rattle.std.proofs.Common.{◌≡◌, ◌++◌, List}
use Rattle.span_base.specs.DcSet.{centres_of}
use Rattle.span_base.specs.declared.policy.Hop.{Hop}
use Rattle.wire_msg.specs.Faults.{hops_at}
use Rattle.wire_msg.proofs.Loops.{behind}
use Rattle.wire_msg.proofs.HopLoop.{centres_from}
use Rattle.wire_msg.proofs.reader.Reader.hops.Given as goal

abbrev pub invariant-loop-centre : goal.invariant-loop-centre
invariant-loop-centre l =
    (more : List Hop)
    × (l.hops ≡ l.fn.hops ++ more)
    × (behind more (hops_at l.member.0 (centres_from l.replicas l.centre) l.self.rest.now) ≡ hops_at l.member.0 (centres_of l.replicas) l.fn.self.rest.now)
