use Rattle.dual_ascent.proofs.InOrder.{pair_pushed}
use Rattle.dual_ascent.proofs.leaves.add_pair.Goals as goal

pub returns-then-len-capacity : goal.returns-then-len-capacity
returns-then-len-capacity c =
    rw c.push_reserved.ensures.items (pair_pushed c.args.row c.args.mult c.args.pairs.now.items c.requires.order c.if-mult-gt0.true c.requires.range)
