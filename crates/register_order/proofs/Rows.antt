-- The order that is computed of a worked log, a history that is no register's, and lines that break a clause.
use Rattle.std.proofs.Common.{◌≡◌, inl, inr, true, false, [], ◌∷◌, refl, ap, arith}
use Rattle.std.specs.List.{AllPairs}
use Rattle.std.proofs.lemmas.Grind.{common_steps}
use Rattle.ticket_rules.specs.declared.stamp.Stamp.{Stamp}
use Rattle.ticket_rules.specs.Stamp.{stamp_zero}
use Rattle.wire_msg.specs.declared.outputs.Reply.TheVariants as r
use Rattle.run_marks.specs.declared.mark.Work.TheVariants as w
use Rattle.run_marks.specs.declared.mark.Mark.TheVariants as k
use Rattle.run_marks.specs.History.{history_of, EndsBefore}
use Rattle.run_marks.specs.Register.{Effect, StandsBefore, IsRegisterOrder}
use Rattle.register_order.specs.Order.{order_of, effects_of, effect}
use Rattle.register_order.specs.Clauses.{IsInOrder, KeepsValue}
use Rattle.register_order.specs.Rows.{call, key, one, overlapping, overlapping_order, other_order, stale, early_front, early_end}
use Rattle.register_order.proofs.Members.{only, two_in}

pub overlapping_calls_stand_so : order_of (history_of 0 overlapping) ≡ overlapping_order
unfolding history_of order_of effects_of
overlapping_calls_stand_so = refl

pub the_other_key_has_one : order_of (history_of 1 overlapping) ≡ other_order
unfolding history_of order_of effects_of
the_other_key_has_one = refl

abbrev wrote : Effect
wrote = effect (call 0 1) true one (5 ∷ [])

abbrev gave : Effect
gave = effect (call 1 1) false stamp_zero []

write_ended : EndsBefore stale wrote.call gave.call
write_ended = record {
  earlier = k.Begin (call 0 1) (key 0) (w.Write (5 ∷ [])) ∷ k.Ticket (call 0 1) one ∷ k.End (call 0 1) (r.Stored one) ∷ [];
  later = k.End (call 1 1) (r.Value stamp_zero []) ∷ [];
  key = key 0;
  work = w.Read;
  split = refl;
  reply = r.Stored one;
  answered = refl;
  ended = (2, omega arith, refl);
}

not_before : StandsBefore stale wrote gave → ⊥
not_before (inl above) = grind (arith, common_steps)
not_before (inr tie) = let number = ap (λ (x : Stamp). x.number) tie.0 in omega (arith, number)

-- the write would have to stand before the read in time, and after it by its stamp
pub stale_read_is_refused : IsRegisterOrder (history_of 0 stale) → ⊥
unfolding history_of
stale_read_is_refused h =
    let R : Effect → Effect → Type 0 = λ a b. StandsBefore stale a b × (EndsBefore stale b.call a.call → ⊥) in
    let both : AllPairs R h.0 = λ i j d lt within. (h.1.sorted i j d lt within, h.1.in_time i j d lt within) in
    let a = h.1.complete (call 0 1) true one (5 ∷ []) (record { write = (key 0, (0, omega arith, refl)); counts = inl (2, omega arith, refl) }) in
    let b = h.1.complete (call 1 1) false stamp_zero [] (record { read = (key 0, (3, omega arith, refl)); ended = (4, omega arith, refl) }) in
    elim (two_in R h.0 wrote gave both a b) as (λ _. ⊥) [
      | inl same ↦ let number = ap (λ (x : Effect). x.stamp.number) same in omega (arith, number)
      | inr apart ↦ elim apart as (λ _. ⊥) [ inl before ↦ not_before before.0 | inr after ↦ after.1 write_ended ]
    ]

-- the clause `order` breaks
pub stale_read_breaks_order : IsInOrder (history_of 0 stale) → ⊥
unfolding history_of
stale_read_breaks_order h =
    h.in_time wrote gave
    (record { write = (key 0, (0, omega arith, refl)); counts = inl (2, omega arith, refl) })
    (record { read = (key 0, (3, omega arith, refl)); ended = (4, omega arith, refl) })
    write_ended refl

-- the clause `value` breaks
pub early_read_breaks_value : KeepsValue early_front early_end → ⊥
early_read_breaks_value h = elim (h (key 0) (0, omega arith, refl)) as (λ _. ⊥) [
  | inl none ↦ let number = ap (λ (s : Stamp). s.number) none.0 in omega (arith, number)
  | inr drawn ↦ let is = only (k.Begin (call 1 1) (key 0) w.Read) (k.Ticket drawn.1.writer one) drawn.1.ticket in absurd (cc)
]
