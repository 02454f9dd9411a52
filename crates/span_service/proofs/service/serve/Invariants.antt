use Rattle.std.proofs.Common.{◌≡◌, ◌≤◌, ◌-◌, length}
use Rattle.span_service.specs.Inputs.{ahead}
use Rattle.span_service.specs.Serving.{Served}
use Rattle.span_service.proofs.service.serve.Given as goal

abbrev pub invariant-loop-answer : goal.invariant-loop-answer
invariant-loop-answer g l = record {
  served : Served l.keys (record { state = g.T.Taker.state l.initial.taker; coming = g.S.Stream.coming l.initial.stream; taken = g.S.Stream.taken l.initial.stream })
      (record { state = g.T.Taker.state l.taker; coming = ahead l.input (g.S.Stream.coming l.stream); taken = g.S.Stream.taken l.stream }) l.answered;
  few : l.answered ≤ 1000000;
  number : (g.T.Taker.state l.taker).number ≡ (g.T.Taker.state l.initial.taker).number;
  kept : length (g.T.Taker.state l.taker).kept ≡ length (g.T.Taker.state l.initial.taker).kept;
  around_stays : g.S.Stream.around l.stream ≡ g.S.Stream.around l.initial.stream;
  faults_stay : g.S.Stream.faults l.initial.stream ≤ g.S.Stream.faults l.stream;
  disk_faults_stay : g.T.Taker.faults l.initial.taker ≤ g.T.Taker.faults l.taker;
  shut : g.T.Taker.shut l.taker ≡ g.T.Taker.shut l.initial.taker;
}

abbrev pub decreases-loop-answer : goal.decreases-loop-answer
decreases-loop-answer g l = 1000001 - l.answered
