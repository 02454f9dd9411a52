use Rattle.span_base.proofs.Sets.{has-meet}
use Rattle.span_base.proofs.dc_set.DcSet.meet.Goals as goal

pub returns-clause-has : goal.returns-clause-has
returns-clause-has c = has-meet c.args.self.now c.args.other.now
