use Rattle.std.proofs.Common.{◌≡◌, ◌+◌, arith, sym, ◌∙◌}
use Rattle.std.proofs.lemmas.List.{with_items_is}
use Rattle.slot_pool.specs.Nodes.{ChangesLeaf}
use Rattle.slot_pool.proofs.BuildLemmas.{IsFilled-start, IsFilled-next, IsTree-filled, flags-filled}
use Rattle.slot_pool.proofs.free.FreeSlots.make.Goals as goal

pub loop-slot-init : goal.loop-slot-init
loop-slot-init c =
    let made = c.in_ok-words.ensures in
    IsFilled-start c.in_ok-words.words.items c.shape-levels.result.1 c.args.count _ c.shape-levels.ensures.positive c.shape-levels.ensures.room c.div_ceil.ensures (made.items_if_clones_equal (λ y same. same))

pub raise-requires-clause-summary : goal.raise-requires-clause-summary
raise-requires-clause-summary c = rw c.deref_mut.ensures.value c.loop-slot.invariant.summary

pub loop-slot-preserved : goal.loop-slot-preserved
loop-slot-preserved c =
    let changes : ChangesLeaf c.loop-slot.words.items c.raise.new.words (c.shape-levels.result.1 + c.loop-slot.slot) 1 = rw c.deref_mut.ensures.value at c.raise.ensures.changes in
    let same = with_items_is c.loop-slot.words c.raise.new.words (changes.same_length ∙ sym c.loop-slot.words.ok.0) in
    rw same (IsFilled-next c.loop-slot.words.items c.raise.new.words c.shape-levels.result.1 c.loop-slot.slot c.args.count c.loop-slot.invariant c.loop-slot-test.true c.raise.ensures.summary changes)

pub invariant_of-result : goal.invariant_of-result
invariant_of-result c =
    let last : c.loop-slot.slot ≡ c.args.count = omega arith in
    IsTree-filled c.loop-slot.words.items c.shape-levels.result.0 c.shape-levels.result.1 c.args.count (rw last at c.loop-slot.invariant) c.shape-levels.ensures.first c.shape-levels.ensures.small c.shape-levels.ensures.positive c.requires

pub returns : goal.returns
returns c =
    let last : c.loop-slot.slot ≡ c.args.count = omega arith in
    flags-filled c.loop-slot.words.items c.shape-levels.result.1 c.args.count (rw last at c.loop-slot.invariant)
