use Rattle.std.proofs.Common.{arith, Some, None}
use Rattle.slo_rules.proofs.Turns.{hop_found, hop_passes}
use Rattle.slo_rules.proofs.turn.due_hop.Goals as goal

pub returns-in-Some : goal.returns-in-Some
returns-in-Some c =
    hop_found c.args.members.now c.args.replicas.now c.args.count c.loop-m.left c.loop-m.m-index _ (Some c.in-Some.child) (omega arith) (omega arith) c.loop-m.invariant.turn c.in-Some.ensures

pub returns-in-None : goal.returns-in-None
returns-in-None c =
    hop_found c.args.members.now c.args.replicas.now c.args.count c.loop-m.left c.loop-m.m-index (record { dc = record { 0 = 0 }; gets = 0; puts = 0 }) None (omega arith) (omega arith) c.loop-m.invariant.turn c.in-None.ensures

pub loop-m-preserved : goal.loop-m-preserved
loop-m-preserved c = record {
  turn = hop_passes c.args.members.now c.args.replicas.now c.args.count c.loop-m.left c.loop-m.m-index c.count-each.result (record { dc = record { 0 = 0 }; gets = 0; puts = 0 }) (omega arith) c.count-each.ensures.count (omega arith) c.loop-m.invariant.turn;
  each = c.count-each.ensures.count;
}
