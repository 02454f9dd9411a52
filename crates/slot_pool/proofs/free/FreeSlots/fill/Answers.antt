use Rattle.std.proofs.Common.{◌+◌, false, List, ℕ, length, arith, refl, sym, ap, ◌∙◌}
use Rattle.std.proofs.lemmas.List.{with_items_is}
use Rattle.slot_pool.specs.Nodes.{ChangesLeaf}
use Rattle.slot_pool.proofs.FlagLemmas.{length-flags, IsTree-change, flags-change}
use Rattle.slot_pool.proofs.free.FreeSlots.fill.Goals as goal

pub lower-requires-clause-within : goal.lower-requires-clause-within
lower-requires-clause-within c =
    let within = rw (← c.self.view_is, length-flags c.self.inside.words.items c.self.inside.first c.self.inside.count) at c.requires in
    omega (arith, within, c.self.invariant.room, ap (λ (ws : List ℕ). length ws) c.deref_mut.ensures.value)

pub invariant_of-self : goal.invariant_of-self
invariant_of-self c =
    let within = rw (← c.self.view_is, length-flags c.self.inside.words.items c.self.inside.first c.self.inside.count) at c.requires in
    let changes : ChangesLeaf c.self.inside.words.items c.lower.new.words (c.self.inside.first + c.args.slot) 0 = rw c.deref_mut.ensures.value at c.lower.ensures.changes in
    let same = with_items_is c.self.inside.words c.lower.new.words (changes.same_length ∙ sym c.self.inside.words.ok.0) in
    rw same (IsTree-change c.self.inside.words.items c.self.inside.levels c.self.inside.first c.self.inside.count c.self.invariant c.lower.new.words c.args.slot 0 within c.lower.ensures.summary changes)

pub returns : goal.returns
returns c =
    let within = rw (← c.self.view_is, length-flags c.self.inside.words.items c.self.inside.first c.self.inside.count) at c.requires in
    let changes : ChangesLeaf c.self.inside.words.items c.lower.new.words (c.self.inside.first + c.args.slot) 0 = rw c.deref_mut.ensures.value at c.lower.ensures.changes in
    let same = with_items_is c.self.inside.words c.lower.new.words (changes.same_length ∙ sym c.self.inside.words.ok.0) in
    rw (same, ← c.self.view_is) (flags-change c.self.inside.words.items c.self.inside.levels c.self.inside.first c.self.inside.count c.self.invariant c.lower.new.words c.args.slot 0 within c.lower.ensures.summary changes false refl)
