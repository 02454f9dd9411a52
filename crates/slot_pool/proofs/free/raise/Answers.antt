use Rattle.slot_pool.proofs.NodeLemmas.{IsRising-start, IsRising-end, IsRising-next, IsRising-done, bit_positive}
use Rattle.std.proofs.Common.{arith}
use Rattle.slot_pool.proofs.free.raise.Goals as goal

pub loop-node-init : goal.loop-node-init
loop-node-init c = IsRising-start c.args.words.now c.args.leaf 1 c.requires.summary c.requires.leaf c.requires.below_root c.requires.within

pub loop-node-preserved : goal.loop-node-preserved
loop-node-preserved c =
    let some = bit_positive c.with_bit.result _ c.with_bit.ensures.set in
    IsRising-next c.args.words.now c.loop-node.words c.args.leaf c.loop-node.node c.with_bit.result 1 c.loop-node.invariant (omega arith) c.with_bit.ensures.set c.with_bit.ensures.others (omega (arith, some))

pub returns-then-word-ne0 : goal.returns-then-word-ne0
returns-then-word-ne0 c =
    let some = bit_positive c.with_bit.result _ c.with_bit.ensures.set in
    let both = IsRising-done c.args.words.now c.loop-node.words c.args.leaf c.loop-node.node c.with_bit.result 1 c.loop-node.invariant (omega arith) c.with_bit.ensures.set c.with_bit.ensures.others (omega (arith, some)) in
    record { summary = both.0; changes = both.1 }

pub returns : goal.returns
returns c =
    let both = IsRising-end c.args.words.now c.loop-node.words c.args.leaf c.loop-node.node 1 (omega arith) c.loop-node.invariant in
    record { summary = both.0; changes = both.1 }
