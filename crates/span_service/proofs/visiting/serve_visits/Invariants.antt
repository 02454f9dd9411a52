use Rattle.std.proofs.Common.{◌≡◌, ◌≤◌, false, length}
use Rattle.span_service.specs.Visits.{AreVisited}
use Rattle.span_service.proofs.visiting.serve_visits.Given as goal

abbrev pub invariant-loop-visit : goal.invariant-loop-visit
invariant-loop-visit g l = record {
  visits : AreVisited l.keys (g.T.Taker.state l.initial.taker) (g.T.Taker.state l.taker)
      (record { told = (g.G.Stream.around l.initial.door).told; taken = g.G.Stream.taken l.initial.door; faults = g.G.Stream.faults l.initial.door })
      (record { told = (g.G.Stream.around l.door).told; taken = g.G.Stream.taken l.door; faults = g.G.Stream.faults l.door })
      (g.K.Sink.taken l.initial.out) (g.K.Sink.taken l.out) l._visit;
  unshut : g.T.Taker.shut l.taker ≡ false;
  number : (g.T.Taker.state l.taker).number ≡ (g.T.Taker.state l.initial.taker).number;
  kept : length (g.T.Taker.state l.taker).kept ≡ length (g.T.Taker.state l.initial.taker).kept;
  write_faults_stay : g.K.Sink.faults l.initial.out ≤ g.K.Sink.faults l.out;
  disk_faults_stay : g.T.Taker.faults l.initial.taker ≤ g.T.Taker.faults l.taker;
  refusals_stay : (g.G.Stream.around l.initial.door).refusals ≤ (g.G.Stream.around l.door).refusals;
}
