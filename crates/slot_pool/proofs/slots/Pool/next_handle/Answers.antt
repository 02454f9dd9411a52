use Rattle.std.proofs.Common.{◌≡◌, Some, None, refl, sym, ap, ◌∙◌, map, true≢false}
use Rattle.std.specs.Prelude.{option_map}
use Rattle.slot_pool.specs.Slots.{first_empty, handle_of}
use Rattle.slot_pool.specs.Stored.{slot_of}
use Rattle.slot_pool.proofs.PoolLemmas.{first_flag, next_some, full_where_none, not_full_where_some}
use Rattle.slot_pool.proofs.slots.Pool.next_handle.Goals as goal

pub returns-in_default-clause-handle : goal.returns-in_default-clause-handle
returns-in_default-clause-handle g c =
    let first : first_empty (map slot_of c.self.inside.slots.items) ≡ None =
    sym (first_flag c.self.inside.slots.items c.self.inside.free c.self.inside.live c.self.invariant 0) ∙ sym c.smallest.ensures ∙ c.in_default.is in
    rw (← c.self.view_is) (sym (ap (option_map (handle_of (map slot_of c.self.inside.slots.items))) first))

pub returns-in_default-clause-full : goal.returns-in_default-clause-full
returns-in_default-clause-full g c =
    let first : first_empty (map slot_of c.self.inside.slots.items) ≡ None =
    sym (first_flag c.self.inside.slots.items c.self.inside.free c.self.inside.live c.self.invariant 0) ∙ sym c.smallest.ensures ∙ c.in_default.is in
    let full = full_where_none (map slot_of c.self.inside.slots.items) first in
    (λ none. rw (← c.self.view_is) full, λ _. refl)

pub returns-clause-handle : goal.returns-clause-handle
returns-clause-handle g c =
    let first : first_empty (map slot_of c.self.inside.slots.items) ≡ Some c.in-Some.slot =
    sym (first_flag c.self.inside.slots.items c.self.inside.free c.self.inside.live c.self.invariant 0) ∙ sym c.smallest.ensures ∙ c.in-Some.is in
    let next = next_some c.self.inside.slots.items c.self.inside.free c.self.inside.live c.self.invariant c.in-Some.slot c.index.result.now first c.index.ensures in
    rw (← c.self.view_is) (sym next)

pub returns-clause-full : goal.returns-clause-full
returns-clause-full g c =
    let first : first_empty (map slot_of c.self.inside.slots.items) ≡ Some c.in-Some.slot =
    sym (first_flag c.self.inside.slots.items c.self.inside.free c.self.inside.live c.self.invariant 0) ∙ sym c.smallest.ensures ∙ c.in-Some.is in (
      λ none. absurd (true≢false none),
      λ full. absurd (not_full_where_some (map slot_of c.self.inside.slots.items) c.in-Some.slot first (rw (← c.self.view_is) at full)),
    )
