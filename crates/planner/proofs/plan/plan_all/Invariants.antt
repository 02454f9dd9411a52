use Rattle.std.proofs.Common.{◌≤◌}
use Rattle.planner.proofs.Parts.{IsPlanSaid}
use Rattle.planner.proofs.plan.plan_all.Given as goal

abbrev pub invariant-loop-number : goal.invariant-loop-number
invariant-loop-number g l = record {
  plan : IsPlanSaid l.world l.budget l.number l.end (g.K.Sink.taken l.fn.out) (g.K.Sink.taken l.out) l.pen;
  faults_stay : g.K.Sink.faults l.fn.out ≤ g.K.Sink.faults l.out;
}
