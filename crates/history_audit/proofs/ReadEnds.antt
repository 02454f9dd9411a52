-- A read's end keeps or breaks the clauses.
use Rattle.std.proofs.Common.{inl, inr, ℕ, Bool, List, Option, Some, sym, subst}
use Rattle.std.specs.Prelude.{Contains}
use Rattle.span_base.specs.declared.ids.Call.{Call}
use Rattle.span_base.specs.declared.ids.KeyId.{KeyId}
use Rattle.ticket_rules.specs.declared.stamp.Stamp.{Stamp}
use Rattle.ticket_rules.specs.Stamp.{IsAtMost}
use Rattle.wire_msg.specs.declared.outputs.Reply.TheVariants as r
use Rattle.run_marks.specs.declared.mark.Work.{Work}
use Rattle.run_marks.specs.declared.mark.Mark.{Mark}
use Rattle.run_marks.specs.declared.mark.Mark.TheVariants as k
use Rattle.register_order.specs.Form.{KeepsForm}
use Rattle.register_order.specs.Clauses.{GivesWritten}
use Rattle.history_audit.specs.declared.calls.CallState.{CallState}
use Rattle.history_audit.specs.declared.fault.Clause.{Clause}
use Rattle.history_audit.specs.declared.fault.Clause.TheVariants as clause
use Rattle.history_audit.specs.Told.{KeepsFirst, Tells}
use Rattle.history_audit.specs.Counted.{Counted}
use Rattle.history_audit.specs.Judging.{BreaksFirst, EndsAsRead, GivesOutOfOrder, MayGive, ReadBreaks}
use Rattle.history_audit.proofs.Ending.{read_keeps}
use Rattle.history_audit.proofs.Writers.{writer_wrote}
use Rattle.history_audit.proofs.Breaking.{read_breaks_dead, read_out_of_order}

-- a read that may give this isn't below its floor
pub may_give_low : (marks : List Mark) (kept : Call → Option CallState) (key : KeyId) (floor stamp : Stamp) (value : List ℕ) → MayGive marks kept key floor stamp value → IsAtMost floor stamp
may_give_low marks kept key floor stamp value may = elim may as (λ _. IsAtMost floor stamp) [
  | inl it ↦ subst (λ (s : Stamp). IsAtMost floor s) (sym it.0) it.2
  | inr it ↦ it.1.3
]

module _ (marks : List Mark) (kept : Call → Option CallState) (last : ℕ → ℕ) (drawn : Stamp → Bool) (top : ℕ → Stamp) (h : Tells marks kept last drawn) (c : Counted marks kept top) (call : Call) (key : KeyId) (floor stamp : Stamp) (value : List ℕ)
    (is : EndsAsRead (kept call) key floor) (form : KeepsForm marks (k.End call (r.Value stamp value))) where
  may_give_written : MayGive marks kept key floor stamp value → GivesWritten marks key (r.Value stamp value)
  may_give_written (inl it) = inl (it.0, it.1)
  may_give_written (inr it) = inr (it.0, writer_wrote marks kept last drawn h key stamp value it.1.0 it.1.1)

  out_written : GivesOutOfOrder marks kept key floor stamp value → GivesWritten marks key (r.Value stamp value)
  out_written (inl it) = inl (it.0, it.1)
  out_written (inr it) = inr (it.0, writer_wrote marks kept last drawn h key stamp value it.1.0 it.1.1)

  pub may_give_keeps : MayGive marks kept key floor stamp value → KeepsFirst marks (k.End call (r.Value stamp value))
  may_give_keeps may = read_keeps marks kept last drawn h call key stamp value is.kept form (may_give_written may)

  pub read_breaks : (broken : Clause) → ReadBreaks marks kept key floor stamp value (Some broken) → BreaksFirst marks (k.End call (r.Value stamp value)) broken
  read_breaks clause.Call b = absurd b
  read_breaks clause.Kind b = absurd b
  read_breaks clause.Stamp b = absurd b
  read_breaks clause.Value b =
      let told = h.told call is.kept.state is.kept.found in
      (form, λ keeps. b (keeps key (subst (λ (x : Work). Contains marks (k.Begin call key x)) is.kept.work_is (subst (λ (x : KeyId). Contains marks (k.Begin call x is.kept.state.work)) is.kept.key_is told.begun))))
  read_breaks clause.Dead b = (
    read_keeps marks kept last drawn h call key stamp value is.kept form (inr (b.0, writer_wrote marks kept last drawn h key stamp value b.1.0 b.1.1)),
    read_breaks_dead marks call key floor stamp value kept last drawn top h form.call c is b,
  )
  read_breaks clause.Order b =
      let it = read_out_of_order marks call key floor stamp value kept last drawn top h form.call c is b in
      (read_keeps marks kept last drawn h call key stamp value is.kept form (out_written b), it.0, it.1)
