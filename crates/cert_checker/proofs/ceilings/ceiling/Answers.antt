use Rattle.cert_checker.proofs.Heights.{computed_above, computed_here}
use Rattle.cert_checker.proofs.ceilings.ceiling.Goals as goal

pub returns-then-is_short : goal.returns-then-is_short
returns-then-is_short c =
    computed_above c.args.value c.from-s.result c.args.s c.ranges.value c.ranges.s.fits c.requires c.from-s.ensures c.if-is_short.true

pub returns-else-is_short : goal.returns-else-is_short
returns-else-is_short c =
    computed_here c.args.value c.from-s.result c.args.s c.ranges.value c.ranges.s.fits c.requires c.from-s.ensures c.if-is_short.false
