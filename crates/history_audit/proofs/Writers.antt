-- Which write a ticket is of, and what a read gives.
use Rattle.std.proofs.Common.{◌≡◌, ◌≢◌, inl, inr, ℕ, Bool, true, false, List, Option, Some, None, refl, sym, subst, ◌∙◌}
use Rattle.std.specs.Prelude.{Contains}
use Rattle.span_base.specs.declared.ids.Call.{Call}
use Rattle.span_base.specs.declared.ids.KeyId.{KeyId}
use Rattle.ticket_rules.specs.declared.stamp.Stamp.{Stamp}
use Rattle.ticket_rules.specs.Stamp.{stamp_zero}
use Rattle.wire_msg.specs.declared.outputs.Reply.TheVariants as r
use Rattle.run_marks.specs.declared.mark.Work.{Work}
use Rattle.run_marks.specs.declared.mark.Work.TheVariants as w
use Rattle.run_marks.specs.declared.mark.Mark.{Mark}
use Rattle.run_marks.specs.declared.mark.Mark.TheVariants as k
use Rattle.register_order.specs.Clauses.{WasDrawn, GivesWritten}
use Rattle.register_order.proofs.Tests.{one_call}
use Rattle.history_audit.specs.declared.calls.CallState.{CallState}
use Rattle.history_audit.specs.declared.fault.Clause.{Clause}
use Rattle.history_audit.specs.declared.fault.Clause.TheVariants as clause
use Rattle.history_audit.specs.Judged.{ZeroBreaks, WriterBreaks}
use Rattle.history_audit.specs.Told.{Tells}
use Rattle.history_audit.specs.Judging.{drawer_of, IsWriter, ReadBreaks}
use Rattle.history_audit.proofs.Tickets.{one_state}

module _ (marks : List Mark) (kept : Call → Option CallState) (last : ℕ → ℕ) (drawn : Stamp → Bool) (h : Tells marks kept last drawn) where
  -- a ticket tells its call
  pub ticket_tells : (call drawer : Call) (stamp : Stamp) → Contains marks (k.Ticket call stamp) → drawer.proxy ≡ stamp.proxy → drawer.seq ≡ stamp.seq → call ≡ drawer
  ticket_tells call drawer stamp c proxy seq =
      let it = h.own call stamp c in
      one_call call.proxy drawer.proxy call.seq drawer.seq (sym (proxy ∙ it.0)) (sym (seq ∙ it.1))

  pub never_drawn : (key : KeyId) (stamp : Stamp) (value : List ℕ) → drawn stamp ≡ false → WasDrawn marks key stamp value → ⊥
  never_drawn key stamp value none d = let e = h.drawn_is d.writer stamp d.ticket in cc (e, none)

  pub unknown_writer : (key : KeyId) (stamp : Stamp) (value : List ℕ) → kept (drawer_of stamp) ≡ None → WasDrawn marks key stamp value → ⊥
  unknown_writer key stamp value none d =
      let same = ticket_tells d.writer (drawer_of stamp) stamp d.ticket refl refl in
      let it = h.begun d.writer key (w.Write value) d.begun in
      let e = subst (λ (c : Call). kept c ≡ Some it.state) same it.found in
      cc (sym none ∙ e)

  pub other_writer : (state : CallState) (key : KeyId) (stamp : Stamp) (value : List ℕ) → kept (drawer_of stamp) ≡ Some state
      → ((state.key ≡ key) × (state.work ≡ w.Write value) → ⊥) → WasDrawn marks key stamp value → ⊥
  other_writer state key stamp value at other d =
      let same = ticket_tells d.writer (drawer_of stamp) stamp d.ticket refl refl in
      let begun = subst (λ (c : Call). Contains marks (k.Begin c key (w.Write value))) same d.begun in
      other (one_state marks kept last drawn h (drawer_of stamp) state at key (w.Write value) begun)

  pub writer_found : (state : CallState) (key : KeyId) (stamp : Stamp) (value : List ℕ) → kept (drawer_of stamp) ≡ Some state → drawn stamp ≡ true → state.key ≡ key → state.work ≡ w.Write value → IsWriter marks kept key stamp value state
  writer_found state key stamp value at drew key_is work_is =
      let it = h.was stamp drew in
      let same = ticket_tells it.0 (drawer_of stamp) stamp it.1 refl refl in
      record { found = at; key_is = key_is; work_is = work_is; drawn = subst (λ (c : Call). Contains marks (k.Ticket c stamp)) same it.1 }

  pub writer_wrote : (key : KeyId) (stamp : Stamp) (value : List ℕ) (writer : CallState) → IsWriter marks kept key stamp value writer → WasDrawn marks key stamp value
  writer_wrote key stamp value writer by = record {
    writer = drawer_of stamp;
    begun = subst (λ (x : Work). Contains marks (k.Begin (drawer_of stamp) key x)) by.work_is (subst (λ (x : KeyId). Contains marks (k.Begin (drawer_of stamp) x writer.work)) by.key_is (h.told (drawer_of stamp) writer by.found).begun);
    ticket = by.drawn;
  }

pub zero_read : (marks : List Mark) (kept : Call → Option CallState) (key : KeyId) (floor stamp : Stamp) (value : List ℕ) → stamp ≡ stamp_zero → (broken : Option Clause) → ZeroBreaks floor value broken → ReadBreaks marks kept key floor stamp value broken
zero_read marks kept key floor stamp value zero_ None b = inl (zero_, b.0, b.1)
zero_read marks kept key floor stamp value zero_ (Some clause.Call) b = absurd b
zero_read marks kept key floor stamp value zero_ (Some clause.Kind) b = absurd b
zero_read marks kept key floor stamp value zero_ (Some clause.Stamp) b = absurd b
zero_read marks kept key floor stamp value zero_ (Some clause.Value) b = λ given. elim given as (λ _. ⊥) [ inl it ↦ b it.1 | inr it ↦ it.0 zero_ ]
zero_read marks kept key floor stamp value zero_ (Some clause.Dead) b = absurd b
zero_read marks kept key floor stamp value zero_ (Some clause.Order) b = inl (zero_, b.0, b.1)

pub unwritten_read : (marks : List Mark) (key : KeyId) (stamp : Stamp) (value : List ℕ) → stamp ≢ stamp_zero → (WasDrawn marks key stamp value → ⊥) → GivesWritten marks key (r.Value stamp value) → ⊥
unwritten_read marks key stamp value other none given = elim given as (λ _. ⊥) [ inl it ↦ other it.0 | inr it ↦ none it.1 ]

pub written_read : (marks : List Mark) (kept : Call → Option CallState) (key : KeyId) (floor stamp : Stamp) (value : List ℕ) (writer : CallState) → stamp ≢ stamp_zero → IsWriter marks kept key stamp value writer → (broken : Option Clause) → WriterBreaks writer floor stamp broken
    → ReadBreaks marks kept key floor stamp value broken
written_read marks kept key floor stamp value writer other by None b = inr (other, (writer, by, b.0, b.1, b.2))
written_read marks kept key floor stamp value writer other by (Some clause.Call) b = absurd b
written_read marks kept key floor stamp value writer other by (Some clause.Kind) b = absurd b
written_read marks kept key floor stamp value writer other by (Some clause.Stamp) b = absurd b
written_read marks kept key floor stamp value writer other by (Some clause.Value) b = absurd b
written_read marks kept key floor stamp value writer other by (Some clause.Dead) b = (other, (writer, by, b))
written_read marks kept key floor stamp value writer other by (Some clause.Order) b = inr (other, (writer, by, b.0, b.1))
