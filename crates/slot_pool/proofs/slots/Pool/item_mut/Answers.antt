use Rattle.std.proofs.Common.{refl, sym, ap, ◌∙◌, map}
use Rattle.std.proofs.lemmas.List.{map-set}
use Rattle.slot_pool.specs.Slots.{Slot, item_of}
use Rattle.slot_pool.specs.Stored.{slot_of}
use Rattle.slot_pool.proofs.PoolLemmas.{live_is, item_at-full, read_slot, IsSound-write}
use Rattle.slot_pool.proofs.slots.Pool.item_mut.Goals as goal

pub invariant_of-self-lent : goal.invariant_of-self-lent
invariant_of-self-lent g c w =
    let found = live_is (map slot_of c.self.inside.slots.items) c.args.handle (rw (← c.self.view_is) at c.requires) in
    IsSound-write c.self.inside.slots.items c.self.inside.free c.self.inside.live c.self.invariant c.args.handle.slot c.args.handle.generation found.0 found.1 c.index_mut.result.now.generation w

pub returns : goal.returns
returns g c =
    let found = live_is (map slot_of c.self.inside.slots.items) c.args.handle (rw (← c.self.view_is) at c.requires) in
    let read = read_slot c.self.inside.slots.items c.args.handle.slot _ c.index_mut.result.now found.1 c.index_mut.ensures.value in
    let same = ap (λ (slot : Slot g.row.T.Denot). slot.generation) read in
    let shown = ap (λ (slot : Slot g.row.T.Denot). item_of slot.content) read in (
      (refl, λ w. rw (← c.self.view_is, map-set, same) refl),
      record { writes_back = tt; value = rw (← c.self.view_is) (item_at-full (map slot_of c.self.inside.slots.items) c.args.handle found.0 found.1 ∙ sym shown ∙ c.item_mut.ensures.value) },
    )
