use Rattle.slot_pool.proofs.NodeLemmas.{IsRising-start, IsRising-end, IsRising-next, IsRising-done}
use Rattle.std.proofs.Common.{arith}
use Rattle.slot_pool.proofs.free.lower.Goals as goal

pub loop-node-init : goal.loop-node-init
loop-node-init c = IsRising-start c.args.words.now c.args.leaf 0 c.requires.summary c.requires.leaf c.requires.below_root c.requires.within

pub loop-node-preserved : goal.loop-node-preserved
loop-node-preserved c =
    IsRising-next c.args.words.now c.loop-node.words c.args.leaf c.loop-node.node c.without_bit-word.result 0 c.loop-node.invariant (omega arith) c.without_bit-word.ensures.cleared c.without_bit-word.ensures.others (omega arith)

pub returns-then-word-ne0 : goal.returns-then-word-ne0
returns-then-word-ne0 c =
    let both = IsRising-done c.args.words.now c.loop-node.words c.args.leaf c.loop-node.node c.without_bit-word.result 0 c.loop-node.invariant (omega arith) c.without_bit-word.ensures.cleared c.without_bit-word.ensures.others (omega (arith, c.without_bit-word.ensures.smaller)) in
    record { summary = both.0; changes = both.1 }

pub returns : goal.returns
returns c =
    let both = IsRising-end c.args.words.now c.loop-node.words c.args.leaf c.loop-node.node 0 (omega arith) c.loop-node.invariant in
    record { summary = both.0; changes = both.1 }
