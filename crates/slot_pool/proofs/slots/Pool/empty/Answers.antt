use Rattle.std.proofs.Common.{sym, ap, ◌∙◌, map, set, arith}
use Rattle.std.proofs.lemmas.List.{map-set}
use Rattle.slot_pool.specs.Slots.{Slot, item_of}
use Rattle.slot_pool.specs.Stored.{slot_of, content_of}
use Rattle.slot_pool.specs.declared.slots.Slot.{Slot as StoredSlot}
use Rattle.slot_pool.proofs.PoolLemmas.{live_is, item_at-full, read_slot, live_positive, flag_within, IsSound-release, IsSound-retire}
use Rattle.slot_pool.proofs.slots.Pool.empty.Goals as goal

pub invariant_of-self : goal.invariant_of-self
invariant_of-self g c =
    let found = live_is (map slot_of c.self.inside.slots.items) c.args.handle (rw (← c.self.view_is) at c.requires) in
    let emptied = ap slot_of c.replace.ensures.after ∙ c.emptied-emptied.ensures in
    IsSound-retire c.self.inside.slots.items c.self.inside.free c.self.inside.live c.self.invariant c.args.handle.slot c.args.handle.generation found.0 found.1 c.replace.new.dest emptied c.if-handle-eq4294967295.true

pub returns-then-handle-eq4294967295-clause-value : goal.returns-then-handle-eq4294967295-clause-value
returns-then-handle-eq4294967295-clause-value g c =
    let found = live_is (map slot_of c.self.inside.slots.items) c.args.handle (rw (← c.self.view_is) at c.requires) in
    let read = read_slot c.self.inside.slots.items c.args.handle.slot _ c.index_mut.result.now found.1 c.index_mut.ensures.value in
    let shown = ap (λ (slot : Slot g.row.T.Denot). item_of slot.content) read in
    let taken = ap (λ (slot : StoredSlot g.row.T.Denot). item_of (content_of slot.content)) c.replace.ensures.value in
    rw (← c.self.view_is) (item_at-full (map slot_of c.self.inside.slots.items) c.args.handle found.0 found.1 ∙ sym shown ∙ sym taken ∙ c.into_item-item.ensures)

pub returns-then-handle-eq4294967295-clause-slots : goal.returns-then-handle-eq4294967295-clause-slots
returns-then-handle-eq4294967295-clause-slots g c =
    let emptied = ap slot_of c.replace.ensures.after ∙ c.emptied-emptied.ensures in
    rw (← c.self.view_is) (map-set slot_of c.self.inside.slots.items c.args.handle.slot c.replace.new.dest ∙ ap (λ (slot : Slot g.row.T.Denot). set (map slot_of c.self.inside.slots.items) c.args.handle.slot slot) emptied)

pub release-requires : goal.release-requires
release-requires g c =
    let found = live_is (map slot_of c.self.inside.slots.items) c.args.handle (rw (← c.self.view_is) at c.requires) in
    flag_within c.self.inside.slots.items c.self.inside.free c.self.inside.live c.self.invariant c.args.handle.slot _ found.1

pub overflow_sub-self : goal.overflow_sub-self
overflow_sub-self g c =
    let found = live_is (map slot_of c.self.inside.slots.items) c.args.handle (rw (← c.self.view_is) at c.requires) in
    live_positive c.self.inside.slots.items c.self.inside.free c.self.inside.live c.self.invariant c.args.handle.slot c.args.handle.generation found.0 found.1

pub invariant_of-self-2 : goal.invariant_of-self-2
invariant_of-self-2 g c =
    let found = live_is (map slot_of c.self.inside.slots.items) c.args.handle (rw (← c.self.view_is) at c.requires) in
    let emptied = ap slot_of c.replace.ensures.after ∙ c.emptied-emptied.ensures in
    IsSound-release c.self.inside.slots.items c.self.inside.free c.self.inside.live c.self.invariant c.args.handle.slot c.args.handle.generation found.0 found.1 c.replace.new.dest emptied (omega arith) c.release.new.self c.release.ensures

pub returns-clause-value : goal.returns-clause-value
returns-clause-value g c =
    let found = live_is (map slot_of c.self.inside.slots.items) c.args.handle (rw (← c.self.view_is) at c.requires) in
    let read = read_slot c.self.inside.slots.items c.args.handle.slot _ c.index_mut.result.now found.1 c.index_mut.ensures.value in
    let shown = ap (λ (slot : Slot g.row.T.Denot). item_of slot.content) read in
    let taken = ap (λ (slot : StoredSlot g.row.T.Denot). item_of (content_of slot.content)) c.replace.ensures.value in
    rw (← c.self.view_is) (item_at-full (map slot_of c.self.inside.slots.items) c.args.handle found.0 found.1 ∙ sym shown ∙ sym taken ∙ c.into_item-item.ensures)

pub returns-clause-slots : goal.returns-clause-slots
returns-clause-slots g c =
    let emptied = ap slot_of c.replace.ensures.after ∙ c.emptied-emptied.ensures in
    rw (← c.self.view_is) (map-set slot_of c.self.inside.slots.items c.args.handle.slot c.replace.new.dest ∙ ap (λ (slot : Slot g.row.T.Denot). set (map slot_of c.self.inside.slots.items) c.args.handle.slot slot) emptied)
