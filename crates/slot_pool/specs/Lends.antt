-- What a pool ends as, where a `&mut` to one of its items is returned.
use Rattle.std.specs.Prelude.{List, Option}
use Rattle.std.specs.Borrow.{Lends, LendsIf, Fml, RattleType, MutBor}
use Rattle.slot_pool.specs.Slots.{Slot, with_item}
use Rattle.slot_pool.specs.declared.handles.Handle.{Handle}
use Rattle.slot_pool.specs.contracts.slots.Pool.{the_row}

module _ (T : RattleType) (pool : MutBor (List (Slot T.Denot))) (handle : Handle) where
  -- once the borrow r ends, the handle has the last item written through it
  abbrev pub lends_item : MutBor T.Denot → Fml
  lends_item r = Lends (the_row T) T pool r (with_item pool.now handle)

  -- the same where r is a reference, and at `None` the pool stays as it is
  abbrev pub lends_get : Option (MutBor T.Denot) → Fml
  lends_get r = LendsIf (the_row T) T pool r (with_item pool.now handle) pool.now
