use Rattle.std.proofs.Common.{◌-◌, ◌≤◌}
use Rattle.span_node.specs.Traffic.{seen}
use Rattle.span_node.specs.Standing.{IsReady, IsToldSoFar}
use Rattle.span_node.proofs.whole_loop.run_loop.Given as goal

abbrev pub invariant-loop-marks : goal.invariant-loop-marks
invariant-loop-marks g l = record {
  ready : IsReady l.running;
  told : IsToldSoFar l.fn.text (g.K.Sink.taken l.initial.out) (g.K.Sink.taken l.out) (seen (g.L.Link.sent l.initial.link) (g.L.Link.answers l.initial.link) (g.L.Link.honest l.initial.link) (g.L.Link.faithful l.initial.link)) (seen (g.L.Link.sent l.link) (g.L.Link.answers l.link) (g.L.Link.honest l.link) (g.L.Link.faithful l.link)) l.running l.log;
  faults : g.K.Sink.faults l.initial.out ≤ g.K.Sink.faults l.out;
  link_faults : g.L.Link.faults l.initial.link ≤ g.L.Link.faults l.link;
}

abbrev pub decreases-loop-marks : goal.decreases-loop-marks
decreases-loop-marks g l = 1000000 - l.running.cloud.events
