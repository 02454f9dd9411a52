use Rattle.std.proofs.Common.{◌≡◌, length, drop}
use Rattle.std.specs.Prelude.{slice_get}
use Rattle.span_base.specs.DcSet.{centres_of}
use Rattle.slo_rules.specs.Rules.{hops_due, centres_asking}
use Rattle.slo_rules.proofs.turn.due_hop.Given as goal

abbrev pub invariant-loop-m : goal.invariant-loop-m
invariant-loop-m l = record {
  turn : slice_get (hops_due (centres_asking l.members) (centres_of l.replicas)) l.count ≡ slice_get (hops_due (centres_asking (drop l.m-index l.members)) (centres_of l.replicas)) l.left;
  each : l.each ≡ length (centres_of l.replicas);
}
