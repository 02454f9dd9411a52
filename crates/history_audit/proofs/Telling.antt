-- What is kept of the lines goes on to be what they tell, one line on.
use Rattle.std.proofs.Common.{◌≡◌, inl, inr, ℕ, ◌≤◌, Bool, true, List, [], ◌∷◌, ◌++◌, Option, Some, None, refl, sym, ap, ◌∙◌}
use Rattle.std.specs.Prelude.{Contains}
use Rattle.std.proofs.lemmas.List.Elements.{Contains-append_left, Contains-push_cases}
use Rattle.std.proofs.lemmas.List.Sums.{fold-append}
use Rattle.span_base.specs.declared.ids.Call.{Call}
use Rattle.span_base.specs.declared.ids.KeyId.{KeyId}
use Rattle.ticket_rules.specs.declared.stamp.Stamp.{Stamp}
use Rattle.ticket_rules.specs.Stamp.{IsAtMost}
use Rattle.wire_msg.specs.declared.outputs.Reply.{Reply}
use Rattle.run_marks.specs.declared.mark.Work.{Work}
use Rattle.run_marks.specs.declared.mark.NoEpochCause.{NoEpochCause}
use Rattle.run_marks.specs.declared.mark.Mark.{Mark}
use Rattle.run_marks.specs.declared.mark.Mark.TheVariants as k
use Rattle.run_marks.specs.History.{call_of}
use Rattle.register_order.specs.Form.{seq_after, last_seq}
use Rattle.history_audit.specs.declared.calls.CallState.{CallState}
use Rattle.history_audit.specs.Told.{HasLatest, IsTold, IsKept, Tells}

abbrev pub more : List Mark → Mark → List Mark
more marks mark = marks ++ mark ∷ []

pub still : (marks : List Mark) (mark e : Mark) → Contains marks e → Contains (more marks mark) e
still marks mark e h = Contains-append_left marks (mark ∷ []) e h

pub last_of_more : (proxy : ℕ) (marks : List Mark) (mark : Mark) → last_seq proxy (more marks mark) ≡ seq_after proxy (last_seq proxy marks) mark
last_of_more proxy marks mark = fold-append (seq_after proxy) 0 marks (mark ∷ [])

-- the line neither draws a ticket of the call nor ends it
pub record PassesBy (mark : Mark) (call : Call) : Type 0 where
  pub no_ticket : (stamp : Stamp) → mark ≡ k.Ticket call stamp → ⊥
  pub no_end : (reply : Reply) → mark ≡ k.End call reply → ⊥

pub latest_stays : (marks : List Mark) (mark : Mark) (call : Call) (latest : Option Stamp) → ((stamp : Stamp) → mark ≡ k.Ticket call stamp → ⊥) → HasLatest marks call latest → HasLatest (more marks mark) call latest
latest_stays marks mark call None by h = λ stamp c. elim (Contains-push_cases marks mark (k.Ticket call stamp) c) as (λ _. ⊥) [ inl old ↦ h stamp old | inr new ↦ by stamp new ]
latest_stays marks mark call (Some latest) by h = record {
  drawn = still marks mark (k.Ticket call latest) h.drawn;
  latest = λ earlier c. elim (Contains-push_cases marks mark (k.Ticket call earlier) c) as (λ _. IsAtMost earlier latest) [ inl old ↦ h.latest earlier old | inr new ↦ absurd (by earlier new) ];
}

pub told_stays : (marks : List Mark) (mark : Mark) (call : Call) (state : CallState) → PassesBy mark call → IsTold marks call state → IsTold (more marks mark) call state
told_stays marks mark call state by h = record {
  begun = still marks mark (k.Begin call state.key state.work) h.begun;
  unended = λ open_ reply c. elim (Contains-push_cases marks mark (k.End call reply) c) as (λ _. ⊥) [ inl old ↦ h.unended open_ reply old | inr new ↦ by.no_end reply new ];
  ended = λ over. let it = h.ended over in (it.0, still marks mark (k.End call it.0) it.1);
  latest = latest_stays marks mark call state.latest by.no_ticket h.latest;
}

-- lines of no call
pub record IsOfNone (mark : Mark) : Type 0 where
  pub passes : (call : Call) → PassesBy mark call
  pub names : call_of mark ≡ None
  pub begins : (call : Call) (key : KeyId) (work : Work) → mark ≡ k.Begin call key work → ⊥
  pub numbers : (proxy last : ℕ) → seq_after proxy last mark ≡ last

pub epoch_is_of_none : (epoch : ℕ) → IsOfNone (k.Epoch epoch)
epoch_is_of_none epoch = record {
  passes = λ call. record { no_ticket = λ stamp e. cc; no_end = λ reply e. cc };
  names = refl;
  begins = λ call key work e. cc;
  numbers = λ proxy last. refl;
}

pub no_epoch_is_of_none : (cause : NoEpochCause) → IsOfNone (k.NoEpoch cause)
no_epoch_is_of_none cause = record {
  passes = λ call. record { no_ticket = λ stamp e. cc; no_end = λ reply e. cc };
  names = refl;
  begins = λ call key work e. cc;
  numbers = λ proxy last. refl;
}

pub tells_after_none : (marks : List Mark) (mark : Mark) (kept : Call → Option CallState) (last : ℕ → ℕ) (drawn : Stamp → Bool) → IsOfNone mark → Tells marks kept last drawn → Tells (more marks mark) kept last drawn
tells_after_none marks mark kept last drawn none h = record {
  told = λ call state found. told_stays marks mark call state (none.passes call) (h.told call state found);
  begun = λ call key work c. elim (Contains-push_cases marks mark (k.Begin call key work) c) as (λ _. IsKept (kept call) key work) [ inl old ↦ h.begun call key work old | inr new ↦ absurd (none.begins call key work new) ];
  named = λ call other c is. elim (Contains-push_cases marks mark other c) as (λ _. (state : CallState) × (kept call ≡ Some state)) [
    | inl old ↦ h.named call other old is
    | inr new ↦ absurd (let e = sym none.names ∙ ap call_of new ∙ is in cc (e))
  ];
  numbers = λ proxy. h.numbers proxy ∙ sym (last_of_more proxy marks mark ∙ none.numbers proxy (last_seq proxy marks));
  low = h.low;
  was = λ stamp is. let it = h.was stamp is in (it.0, still marks mark (k.Ticket it.0 stamp) it.1);
  drawn_is = λ call stamp c. elim (Contains-push_cases marks mark (k.Ticket call stamp) c) as (λ _. drawn stamp ≡ true) [ inl old ↦ h.drawn_is call stamp old | inr new ↦ absurd ((none.passes call).no_ticket stamp new) ];
  own = λ call stamp c. elim (Contains-push_cases marks mark (k.Ticket call stamp) c) as (λ _. (stamp.proxy ≡ call.proxy) × (stamp.seq ≡ call.seq) × (1 ≤ stamp.number)) [ inl old ↦ h.own call stamp old | inr new ↦ absurd ((none.passes call).no_ticket stamp new) ];
}
