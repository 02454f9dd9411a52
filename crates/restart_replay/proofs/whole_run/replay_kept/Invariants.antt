use Rattle.std.proofs.Common.{◌≤◌, length}
use Rattle.restart_replay.specs.Standing.{IsReady, IsToldSoFar}
use Rattle.restart_replay.proofs.whole_run.replay_kept.Given as goal

abbrev pub invariant-loop-marks : goal.invariant-loop-marks
invariant-loop-marks g l = record {
  ready : IsReady l.running;
  told : IsToldSoFar l.fn.text (g.K.Sink.taken l.initial.out) (g.K.Sink.taken l.out) l.running l.log;
  faults : g.K.Sink.faults l.initial.out ≤ g.K.Sink.faults l.out;
}

abbrev pub decreases-loop-marks : goal.decreases-loop-marks
decreases-loop-marks g l = length l.running.events.events
