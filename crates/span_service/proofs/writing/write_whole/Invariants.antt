use Rattle.std.proofs.Common.{length, take, ◌-◌, ◌≤◌, ◌≡◌}
use Rattle.span_base.specs.Taken.{Appends}
use Rattle.span_service.proofs.writing.write_whole.Given as goal

abbrev pub invariant-loop-written : goal.invariant-loop-written
invariant-loop-written g l = record {
  within : l.written ≤ length l.piece;
  so_far : Appends (g.S.Stream.taken l.initial.stream) (g.S.Stream.taken l.stream) (take l.written l.piece);
  coming_stays : g.S.Stream.coming l.stream ≡ g.S.Stream.coming l.initial.stream;
  around_stays : g.S.Stream.around l.stream ≡ g.S.Stream.around l.initial.stream;
  faults_stay : g.S.Stream.faults l.initial.stream ≤ g.S.Stream.faults l.stream;
}

abbrev pub decreases-loop-written : goal.decreases-loop-written
decreases-loop-written g l = length l.piece - l.written
