use Rattle.std.proofs.Common.{◌≡◌, rules, ℕ, Option, List, slice_get, get_or, arith, sym, ap, ◌∙◌}
use Rattle.std.proofs.lemmas.Option.{unwrap_or-slice_get}
use Rattle.std.proofs.lemmas.Nat.{trailing_le}
use Rattle.std.specs.Prelude.{unwrap_or}
use Rattle.slot_pool.proofs.SearchLemmas.{IsFound-root, IsFound-lowest, next_small, found_slot}
use Rattle.slot_pool.proofs.FlagLemmas.{smallest_none, smallest_some}
use Rattle.slot_pool.proofs.free.FreeSlots.smallest.Goals as goal

-- the root word as it is read
root_read : (words shown : List ℕ) (copied first : Option ℕ) (root : ℕ) → root ≡ unwrap_or copied 0 → copied ≡ first → first ≡ slice_get shown 0 → shown ≡ words → root ≡ get_or words 0 0
root_read words shown copied first root read same at_first same_words =
    read ∙ ap (λ o. unwrap_or o 0) (same ∙ at_first) ∙ unwrap_or-slice_get shown 0 0 ∙ ap (λ (ws : List ℕ). get_or ws 0 0) same_words

pub returns-then-unwrap_or-eq0 : goal.returns-then-unwrap_or-eq0
returns-then-unwrap_or-eq0 c =
    let read = root_read c.self.inside.words.items c.deref.result.now c.copied.result _ c.unwrap_or.result c.unwrap_or.ensures c.copied.ensures c.first.ensures.value c.deref.ensures.value in
    let none = smallest_none c.self.inside.words.items c.self.inside.levels c.self.inside.first c.self.inside.count c.self.invariant (sym read ∙ c.if-unwrap_or-eq0.true) in
    rw (← c.self.view_is) (sym none)

pub loop-init : goal.loop-init
loop-init c = IsFound-root c.self.inside.words.items c.self.inside.levels c.self.inside.first

pub index-requires : goal.index-requires
index-requires c =
    let read = root_read c.self.inside.words.items c.deref.result.now c.copied.result _ c.unwrap_or.result c.unwrap_or.ensures c.copied.ensures c.first.ensures.value c.deref.ensures.value in
    let at_word = next_small c.self.inside.words.items c.self.inside.levels c.self.inside.first c.self.inside.count c.loop.counter c.loop.node c.self.invariant (omega arith) c.loop.invariant c.loop-test.true in
    omega (arith, at_word.0, c.self.inside.words.ok.0)

pub overflow_mul-node : goal.overflow_mul-node
overflow_mul-node c =
    let read = root_read c.self.inside.words.items c.deref.result.now c.copied.result _ c.unwrap_or.result c.unwrap_or.ensures c.copied.ensures c.first.ensures.value c.deref.ensures.value in
    let at_word = next_small c.self.inside.words.items c.self.inside.levels c.self.inside.first c.self.inside.count c.loop.counter c.loop.node c.self.invariant (omega arith) c.loop.invariant c.loop-test.true in
    omega (arith, at_word.1)

pub overflow_add-node : goal.overflow_add-node
overflow_add-node c =
    let read = root_read c.self.inside.words.items c.deref.result.now c.copied.result _ c.unwrap_or.result c.unwrap_or.ensures c.copied.ensures c.first.ensures.value c.deref.ensures.value in
    let at_word = next_small c.self.inside.words.items c.self.inside.levels c.self.inside.first c.self.inside.count c.loop.counter c.loop.node c.self.invariant (omega arith) c.loop.invariant c.loop-test.true in
    omega (arith, at_word.1)

pub overflow_add-node-in-loop : goal.overflow_add-node-in-loop
overflow_add-node-in-loop c =
    let read = root_read c.self.inside.words.items c.deref.result.now c.copied.result _ c.unwrap_or.result c.unwrap_or.ensures c.copied.ensures c.first.ensures.value c.deref.ensures.value in
    let at_word = next_small c.self.inside.words.items c.self.inside.levels c.self.inside.first c.self.inside.count c.loop.counter c.loop.node c.self.invariant (omega arith) c.loop.invariant c.loop-test.true in
    omega (arith, at_word.1, trailing_le 64 c.index.result.now)

pub loop-preserved : goal.loop-preserved
loop-preserved c =
    let read = root_read c.self.inside.words.items c.deref.result.now c.copied.result _ c.unwrap_or.result c.unwrap_or.ensures c.copied.ensures c.first.ensures.value c.deref.ensures.value in
    IsFound-lowest c.self.inside.words.items c.self.inside.levels c.self.inside.first c.self.inside.count c.loop.counter c.loop.node c.self.invariant (omega arith) c.loop.invariant c.index.result.now c.index.ensures (search rules) c.loop-test.true

pub overflow_sub-result : goal.overflow_sub-result
overflow_sub-result c =
    let last : c.loop.counter ≡ c.self.inside.levels = omega arith in
    let slot = found_slot c.self.inside.words.items c.self.inside.levels c.self.inside.first c.self.inside.count c.loop.node c.self.invariant (rw last at c.loop.invariant) in
    slot.0

pub overflow_cast-result : goal.overflow_cast-result
overflow_cast-result c =
    let last : c.loop.counter ≡ c.self.inside.levels = omega arith in
    let slot = found_slot c.self.inside.words.items c.self.inside.levels c.self.inside.first c.self.inside.count c.loop.node c.self.invariant (rw last at c.loop.invariant) in
    omega (arith, slot.1, c.self.invariant.count_small)

pub returns : goal.returns
returns c =
    let last : c.loop.counter ≡ c.self.inside.levels = omega arith in
    let some = smallest_some c.self.inside.words.items c.self.inside.levels c.self.inside.first c.self.inside.count c.self.invariant c.loop.node (rw last at c.loop.invariant) in
    rw (← c.self.view_is) (sym some)
