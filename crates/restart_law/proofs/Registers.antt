-- The history of each strong key in a run without limits on its messages is that of one register.
use Rattle.std.proofs.Common.{◌≡◌, List, [], ◌∷◌, ◌++◌, refl, sym, subst, Ok, Err}
use Rattle.register_law.proofs.Words.{KeyId, Store, Outcome, Event, ran, store_after, StoredBy, Ghost, noted_of, first_ghost, Inv, opening, history_of, Mark, append-nil, append_assoc}
use Rattle.run_marks.specs.Register.{IsRegisterOrder}
use Rattle.register_order.specs.Order.{order_of}
use Rattle.register_order.proofs.FromMarks.{marks_take_effect}
use Rattle.register_law.proofs.Induction.{inv_after}
use Rattle.register_law.proofs.OpeningHolds.{opening_holds}
use Rattle.register_law.proofs.MarksOfKey.{floor_of, marks_tell}
use Rattle.restart_law.specs.Unlimited.{unlimited_step, unlimited_run, unlimited_run_of}
use Rattle.restart_law.specs.Laws.{UnlimitedRegistersAreKept}
use Rattle.restart_law.proofs.Taken.{happened_unlimited}

-- something is noted beside a run of which the invariant holds, and it has these marks
record Noted (key : KeyId) (s : Store) (marks : List Mark) : Type 0 where
  pub ghost : Ghost
  pub inv : Inv key s ghost
  pub marks_are : ghost.marks ≡ marks

noted_along : (key : KeyId) (events : List Event) (s : Store) (g : Ghost) → Inv key s g → Noted key (unlimited_run events s).store (g.marks ++ (unlimited_run events s).marks)
unfolding unlimited_run
noted_along key [] s g inv = record { ghost = g; inv = inv; marks_are = sym (append-nil g.marks) }
noted_along key (event ∷ events) s g inv = by (unlimited_step s event) refl (λ next later holds. noted_along key events next later holds)
  where
    by : (o : Outcome) → unlimited_step s event ≡ o
        → ((next : Store) (later : Ghost) → Inv key next later → Noted key (unlimited_run events next).store (later.marks ++ (unlimited_run events next).marks))
        → Noted key (ran s o (unlimited_run events (store_after s o))).store (g.marks ++ (ran s o (unlimited_run events (store_after s o))).marks)
    by (Ok h) is rest =
        let all = rest h.store (noted_of key s h g) (inv_after key s g h (happened_unlimited s event h is) inv) in
        subst (Noted key (unlimited_run events h.store).store) (append_assoc g.marks h.marks (unlimited_run events h.store).marks) all
    by (Err fault) is rest = record { ghost = g; inv = inv; marks_are = sym (append-nil g.marks) }

key_is_register : (key : KeyId) (s : Store) (marks : List Mark) → Noted key s marks → IsRegisterOrder (history_of key.0 marks)
key_is_register key s marks noted =
    let g : Ghost = noted.ghost in
    let order : IsRegisterOrder (history_of key.0 noted.ghost.marks) = (
      order_of (history_of key.0 noted.ghost.marks),
      marks_take_effect (history_of key.0 noted.ghost.marks) (StoredBy key s) (floor_of noted.ghost) (marks_tell key s noted.ghost noted.inv),
    ) in
    subst (λ (ms : List Mark). IsRegisterOrder (history_of key.0 ms)) noted.marks_are order

pub unlimited_registers : UnlimitedRegistersAreKept
unlimited_registers header events h key strong =
    let at : KeyId = record { 0 = key } in
    key_is_register at (unlimited_run_of header events).store (unlimited_run_of header events).marks (noted_along at events (opening header) first_ghost (opening_holds header at h strong))
