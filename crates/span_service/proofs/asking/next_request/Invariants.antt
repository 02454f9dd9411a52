use Rattle.std.proofs.Common.{◌≡◌, ◌<◌, ◌≤◌, ◌-◌, length}
use Rattle.span_service.specs.Inputs.{ahead}
use Rattle.span_service.proofs.asking.next_request.Given as goal

abbrev pub invariant-loop-message : goal.invariant-loop-message
invariant-loop-message g l = record {
  some : 0 < length l.input;
  same : ahead l.input (g.S.Stream.coming l.stream) ≡ ahead l.initial.input (g.S.Stream.coming l.initial.stream);
  taken_stays : g.S.Stream.taken l.stream ≡ g.S.Stream.taken l.initial.stream;
  around_stays : g.S.Stream.around l.stream ≡ g.S.Stream.around l.initial.stream;
  faults_stay : g.S.Stream.faults l.initial.stream ≤ g.S.Stream.faults l.stream;
}

abbrev pub decreases-loop-message : goal.decreases-loop-message
decreases-loop-message g l = 8194 - length l.input
