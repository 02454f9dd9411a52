-- The laws over epochs: stored puts stay, and earlier stamps are below the opening version.
use Rattle.std.proofs.Common.{List, sym, subst}
use Rattle.std.specs.Prelude.{None}
use Rattle.span_base.specs.declared.ids.KeyId.{KeyId}
use Rattle.run_marks.specs.declared.mark.Mark.{Mark}
use Rattle.world_core.specs.declared.event.Event.{Event}
use Rattle.world_core.specs.declared.event.Header.{Header}
use Rattle.world_core.specs.State.{Store, opening}
use Rattle.world_core.specs.Run.{MayRun, run_of}
use Rattle.register_law.specs.Ghost.{Ghost, first_ghost, history}
use Rattle.register_law.proofs.Induction.{marks_noted}
use Rattle.eventual_law.specs.Keys.{IsEventualKey}
use Rattle.eventual_law.specs.Opened.{opener}
use Rattle.eventual_law.specs.Puts.{IsStored}
use Rattle.eventual_law.specs.Laws.{StoredPutsStay, EarlierStampsAreBelow}
use Rattle.eventual_law.specs.Held.{IsOpener}
use Rattle.eventual_law.proofs.Follows.{stored_are_held, opened_with, one_opening, earlier_are_below}
use Rattle.eventual_law.proofs.HeldRun.{inv_first, inv_at_end}
use Rattle.eventual_law.proofs.Opener.{opener_along}

pub stored_puts_stay : StoredPutsStay
stored_puts_stay header events h may key e stamp stored =
    stored_are_held key (run_of header events).store (history key events (opening header) first_ghost) (inv_at_end header key events e may) stamp
    (subst (λ (marks : List Mark). IsStored key marks stamp) (sym (marks_noted key events (opening header) first_ghost)) stored)

opener_at_end : (header : Header) (key : KeyId) (events : List Event) → IsEventualKey header key.0 → MayRun events (opening header) → IsOpener key (run_of header events).store (history key events (opening header) first_ghost).opened (opener key events (opening header) None)
opener_at_end header key events e may = opener_along key events (opening header) first_ghost None may (inv_first header key e) tt

pub earlier_stamps_are_below : EarlierStampsAreBelow
earlier_stamps_are_below header events h may key e =
    let s : Store = (run_of header events).store in
    let g : Ghost = history key events (opening header) first_ghost in
    let inv = inv_at_end header key events e may in
    let opened = opener_at_end header key events e may in
    record {
      some = opened_with key s g inv g.opened (opener key events (opening header) None) opened;
      one = λ version other is also. one_opening key s g inv (opener key events (opening header) None) version other is also;
      above = λ version is d lt. earlier_are_below key s g (opener key events (opening header) None) inv opened version is d lt;
    }
