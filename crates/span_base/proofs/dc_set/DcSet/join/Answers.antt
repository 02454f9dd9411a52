use Rattle.span_base.proofs.Sets.{has-join}
use Rattle.span_base.proofs.dc_set.DcSet.join.Goals as goal

pub returns-clause-has : goal.returns-clause-has
returns-clause-has c = has-join c.args.self.now c.args.other.now
