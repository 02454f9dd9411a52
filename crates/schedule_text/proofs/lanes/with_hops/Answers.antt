use Rattle.schedule_text.proofs.Pieced.{parents_left}
use Rattle.schedule_text.proofs.lanes.with_hops.Goals as goal

pub returns-then-is_some : goal.returns-then-is_some
returns-then-is_some c = parents_left c.args.replicas c.args.near c.loop-to.lanes c.loop-to.to c.loop-to.from _ c.in_default.is c.if-is_some.ensures c.loop-to.invariant
