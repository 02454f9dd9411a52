use Rattle.std.proofs.Common.{refl, ap, map}
use Rattle.std.proofs.lemmas.List.{map-set}
use Rattle.slot_pool.specs.Slots.{Slot}
use Rattle.slot_pool.specs.Stored.{slot_of}
use Rattle.slot_pool.proofs.PoolLemmas.{next_is, read_slot, IsSound-fill, not_empty_is}
use Rattle.slot_pool.proofs.slots.Pool.fill.Goals as goal

pub unreachable-requires : goal.unreachable-requires
unreachable-requires g c =
    let next = rw (← c.self.view_is) at c.requires in
    let there = next_is (map slot_of c.self.inside.slots.items) c.args.handle next in
    let read = read_slot c.self.inside.slots.items c.args.handle.slot _ c.index_mut.result.now there c.index_mut.ensures.value in
    not_empty_is c.replace.result c.args.handle.generation c.index_mut.result.now read c.replace.ensures.value c.in-Holds.is

pub invariant_of-self : goal.invariant_of-self
invariant_of-self g c =
    let next = rw (← c.self.view_is) at c.requires in
    let there = next_is (map slot_of c.self.inside.slots.items) c.args.handle next in
    rw (c.replace.ensures.after) (IsSound-fill c.self.inside.slots.items c.self.inside.free c.self.inside.live c.self.invariant c.args.handle.slot c.args.handle.generation there c.index_mut.result.now.generation c.args.item c.fill.new.self c.fill.ensures)

pub returns : goal.returns
returns g c =
    let next = rw (← c.self.view_is) at c.requires in
    let there = next_is (map slot_of c.self.inside.slots.items) c.args.handle next in
    let read = read_slot c.self.inside.slots.items c.args.handle.slot _ c.index_mut.result.now there c.index_mut.ensures.value in
    let same = ap (λ (slot : Slot g.row.T.Denot). slot.generation) read in
    rw (c.replace.ensures.after, map-set, ← c.self.view_is, same) refl
