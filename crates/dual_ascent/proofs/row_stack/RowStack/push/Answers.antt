use Rattle.std.proofs.Common.{◌≡◌, false, ◌∙◌, sym, arith, get_or}
use Rattle.bound_cert.proofs.Scratch.{same_default}
use Rattle.dual_ascent.proofs.Stacking.{one_is_free}
use Rattle.dual_ascent.proofs.row_stack.RowStack.push.Goals as goal

pub index_mut-requires-then-not-index : goal.index_mut-requires-then-not-index
index_mut-requires-then-not-index c =
    let waits = c.self.inside.waits.items in
    let inside = rw (← c.self.view_is) at c.requires in
    let free : get_or c.self.inside.waits.items c.args.row false ≡ false =
    same_default c.self.inside.waits.items c.args.row false c.index.result.now inside ∙ (let read = rw c.from-at.ensures at c.index.ensures in sym read) ∙ c.if-not-index.true in
    omega (arith, one_is_free waits c.args.row inside free, c.self.invariant.places, c.self.invariant.waiting)
