use Rattle.std.proofs.Common.{length, take, ◌-◌, ◌≤◌}
use Rattle.span_base.specs.Taken.{Appends}
use Rattle.span_base.proofs.writing.write_all.Given as goal

abbrev pub invariant-loop-written : goal.invariant-loop-written
invariant-loop-written g l = record {
  within : l.written ≤ length l.piece;
  so_far : Appends (g.K.Sink.taken l.initial.out) (g.K.Sink.taken l.out) (take l.written l.piece);
  faults_stay : g.K.Sink.faults l.initial.out ≤ g.K.Sink.faults l.out;
}

abbrev pub decreases-loop-written : goal.decreases-loop-written
decreases-loop-written g l = length l.piece - l.written
