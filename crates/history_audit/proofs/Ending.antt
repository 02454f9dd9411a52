-- A call ends, or its end breaks a clause.
use Rattle.std.proofs.Common.{◌≡◌, ◌≢◌, inl, inr, ℕ, ◌≤◌, Bool, true, false, List, Option, Some, None, refl, sym, ap, subst, ◌∙◌, arith}
use Rattle.std.proofs.lemmas.Grind.{common_steps}
use Rattle.std.proofs.lemmas.List.Elements.{Contains-push, Contains-push_cases}
use Rattle.span_base.specs.declared.ids.Call.{Call}
use Rattle.span_base.specs.declared.ids.KeyId.{KeyId}
use Rattle.ticket_rules.specs.declared.stamp.Stamp.{Stamp}
use Rattle.ticket_rules.specs.Stamp.{IsAtMost}
use Rattle.wire_msg.specs.declared.outputs.Reply.{Reply}
use Rattle.wire_msg.specs.declared.outputs.Reply.TheVariants as r
use Rattle.run_marks.specs.declared.mark.Work.{Work}
use Rattle.run_marks.specs.declared.mark.Work.TheVariants as w
use Rattle.run_marks.specs.declared.mark.Mark.{Mark}
use Rattle.run_marks.specs.declared.mark.Mark.TheVariants as k
use Rattle.run_marks.specs.History.{is_same_call}
use Rattle.register_order.specs.Form.{answers_of, fits, IsLatestTicket, GivesLatest, KeepsForm}
use Rattle.register_order.specs.Order.{is_reading}
use Rattle.register_order.specs.Clauses.{KeepsValue, GivesWritten}
use Rattle.register_order.proofs.Tests.{call_is_itself}
use Rattle.history_audit.specs.declared.calls.CallState.{CallState}
use Rattle.history_audit.specs.declared.calls.Ending.{Ending}
use Rattle.history_audit.specs.declared.calls.Ending.TheVariants.{Open, Ended}
use Rattle.history_audit.specs.declared.fault.Clause.{Clause}
use Rattle.history_audit.specs.declared.fault.Clause.TheVariants as clause
use Rattle.history_audit.specs.Calls.{counting, ending_so}
use Rattle.history_audit.specs.Judged.{EndBreaks, GivesLast}
use Rattle.history_audit.specs.Told.{HasLatest, IsTold, IsKept, Tells, KeepsFirst}
use Rattle.history_audit.specs.Judging.{BreaksFirst}
use Rattle.history_audit.proofs.Telling.{more, still, latest_stays}
use Rattle.history_audit.proofs.Changing.{Changes, IsOfCall, KeepsTold, TicketsAre, kept_on, still_kept, tells_after_change, tells_after_line}
use Rattle.history_audit.proofs.Tickets.{one_state, open_call, ended_call}

end_is_of_call : (call : Call) (reply : Reply) → IsOfCall (k.End call reply) call
end_is_of_call call reply = record {
  passes = λ other apart. record { no_ticket = λ stamp e. cc; no_end = λ one e. not_other other apart (call_in one other e) };
  names = refl;
  begins = λ other key work e. cc;
  numbers = λ proxy last. refl;
}
  where
    call_in : (one : Reply) (other : Call) → k.End call reply ≡ k.End other one → call ≡ other
    call_in one other e = cc

    not_other : (other : Call) → is_same_call call other ≡ false → call ≡ other → ⊥
    not_other other apart same = let e = subst (λ (c : Call). is_same_call call c ≡ true) same (call_is_itself call) in cc (e, apart)

no_ticket : (call other : Call) (reply : Reply) (stamp : Stamp) → k.End call reply ≡ k.Ticket other stamp → ⊥
no_ticket call other reply stamp e = cc

tickets_stay : (marks : List Mark) (call : Call) (reply : Reply) (kept : Call → Option CallState) (last : ℕ → ℕ) (drawn : Stamp → Bool) → Tells marks kept last drawn → TicketsAre (more marks (k.End call reply)) drawn
tickets_stay marks call reply kept last drawn h = record {
  was = λ stamp drew. let it = h.was stamp drew in (it.0, still marks (k.End call reply) (k.Ticket it.0 stamp) it.1);
  drawn_is = λ other stamp c. elim (Contains-push_cases marks (k.End call reply) (k.Ticket other stamp) c) as (λ _. drawn stamp ≡ true) [ inl before ↦ h.drawn_is other stamp before | inr e ↦ absurd (no_ticket call other reply stamp e) ];
  own = λ other stamp c. elim (Contains-push_cases marks (k.End call reply) (k.Ticket other stamp) c) as (λ _. (stamp.proxy ≡ other.proxy) × (stamp.seq ≡ other.seq) × (1 ≤ stamp.number)) [
    | inl before ↦ h.own other stamp before
    | inr e ↦ absurd (no_ticket call other reply stamp e)
  ];
}

pub tells_after_end : (marks : List Mark) (call : Call) (state : CallState) (reply : Reply) (ending : Ending) (old new : Call → Option CallState) (last : ℕ → ℕ) (drawn : Stamp → Bool)
    → ending ≢ Open → old call ≡ Some state → Changes call (ending_so ending) old new → Tells marks old last drawn → Tells (more marks (k.End call reply)) new last drawn
tells_after_end marks call state reply ending old new last drawn over at is h =
    tells_after_line marks (k.End call reply) call state (ending_so ending) old new last drawn drawn (end_is_of_call call reply) (λ s. refl) (λ s. refl) is at told (tickets_stay marks call reply old last drawn h) h
  where
    was : IsTold marks call state
    was = h.told call state at

    told : IsTold (more marks (k.End call reply)) call (ending_so ending state)
    told = record {
      begun = still marks (k.End call reply) (k.Begin call state.key state.work) was.begun;
      unended = λ open_ one c. over open_;
      ended = λ ended_. (reply, Contains-push marks (k.End call reply));
      latest = latest_stays marks (k.End call reply) call state.latest (λ stamp e. no_ticket call call reply stamp e) was.latest;
    }

-- the latest ticket is the one that the lines tell
given_latest : (marks : List Mark) (call : Call) (latest : Option Stamp) (reply : Reply) → HasLatest marks call latest → GivesLast latest reply → GivesLatest marks call reply
given_latest marks call latest (r.Value stamp value) has gives = tt
given_latest marks call latest (r.Stored stamp) has gives = subst (λ (l : Option Stamp). HasLatest marks call l) gives has
given_latest marks call latest (r.At epoch) has gives = tt
given_latest marks call latest (r.Moved epoch) has gives = tt
given_latest marks call latest (r.Fenced held) has gives = tt
given_latest marks call latest r.Unsure has gives = tt
given_latest marks call latest (r.Current epoch) has gives = tt
given_latest marks call latest (r.Stale epoch) has gives = tt
given_latest marks call latest r.Outside has gives = tt
given_latest marks call latest r.Full has gives = tt
given_latest marks call latest r.NumbersOut has gives = tt
given_latest marks call latest r.GivenUp has gives = tt

at_most_both : (a b : Stamp) → IsAtMost a b → IsAtMost b a → a ≡ b
at_most_both a b h i = grind (arith, common_steps)

latest_is_one : (marks : List Mark) (call : Call) (latest : Option Stamp) (stamp : Stamp) → HasLatest marks call latest → IsLatestTicket marks call stamp → latest ≡ Some stamp
latest_is_one marks call None stamp has is = absurd (has stamp is.drawn)
latest_is_one marks call (Some l) stamp has is = ap (λ (s : Stamp). Some s) (at_most_both l stamp (is.latest l has.drawn) (has.latest stamp is.drawn))

last_given : (marks : List Mark) (call : Call) (latest : Option Stamp) (reply : Reply) → HasLatest marks call latest → GivesLatest marks call reply → GivesLast latest reply
last_given marks call latest (r.Value stamp value) has gives = tt
last_given marks call latest (r.Stored stamp) has gives = latest_is_one marks call latest stamp has gives
last_given marks call latest (r.At epoch) has gives = tt
last_given marks call latest (r.Moved epoch) has gives = tt
last_given marks call latest (r.Fenced held) has gives = tt
last_given marks call latest r.Unsure has gives = tt
last_given marks call latest (r.Current epoch) has gives = tt
last_given marks call latest (r.Stale epoch) has gives = tt
last_given marks call latest r.Outside has gives = tt
last_given marks call latest r.Full has gives = tt
last_given marks call latest r.NumbersOut has gives = tt
last_given marks call latest r.GivenUp has gives = tt

pub end_keeps : (marks : List Mark) (kept : Call → Option CallState) (last : ℕ → ℕ) (drawn : Stamp → Bool) → Tells marks kept last drawn → (call : Call) (state : CallState) (reply : Reply) → kept call ≡ Some state
    → EndBreaks state reply None → KeepsForm marks (k.End call reply)
end_keeps marks kept last drawn h call state reply at fine =
    let told = h.told call state at in
    record {
      call = open_call marks call state told fine.0;
      kind = λ key work c. ap (λ (x : Work). fits (answers_of x) reply) (sym (one_state marks kept last drawn h call state at key work c).1) ∙ fine.1;
      stamp = given_latest marks call state.latest reply told.latest fine.2;
    }

pub end_breaks : (marks : List Mark) (kept : Call → Option CallState) (last : ℕ → ℕ) (drawn : Stamp → Bool) → Tells marks kept last drawn → (call : Call) (state : CallState) (reply : Reply) → kept call ≡ Some state
    → (broken : Clause) → EndBreaks state reply (Some broken) → BreaksFirst marks (k.End call reply) broken
end_breaks marks kept last drawn h call state reply at clause.Call over = ended_call marks call state (h.told call state at) over
end_breaks marks kept last drawn h call state reply at clause.Kind b =
    let told = h.told call state at in
    (open_call marks call state told b.0, λ kind. let e = kind state.key state.work told.begun in cc (e, b.1))
end_breaks marks kept last drawn h call state reply at clause.Stamp b =
    let told = h.told call state at in
    (open_call marks call state told b.0, λ key work c. ap (λ (x : Work). fits (answers_of x) reply) (sym (one_state marks kept last drawn h call state at key work c).1) ∙ b.1, λ gives. b.2 (last_given marks call state.latest reply told.latest gives))
end_breaks marks kept last drawn h call state reply at clause.Value b = absurd b
end_breaks marks kept last drawn h call state reply at clause.Dead b = absurd b
end_breaks marks kept last drawn h call state reply at clause.Order b = absurd b

-- what no read gives keeps the clause on values
pub value_of_no_read : (marks : List Mark) (kept : Call → Option CallState) (last : ℕ → ℕ) (drawn : Stamp → Bool) → Tells marks kept last drawn → (call : Call) (state : CallState) (reply : Reply) → kept call ≡ Some state
    → is_reading state.work ≡ false → KeepsValue marks (k.End call reply)
value_of_no_read marks kept last drawn h call state reply at other = λ key c.
    absurd (let e = ap is_reading (one_state marks kept last drawn h call state at key w.Read c).1 in cc (e, other))

counting_keeps : (stamp : Stamp) → KeepsTold (counting stamp)
counting_keeps stamp = record { key = λ s. refl; work = λ s. refl; told = λ marks call s h. record { begun = h.begun; unended = h.unended; ended = h.ended; latest = h.latest } }

-- a call that counts is told as before
pub tells_after_count : (marks : List Mark) (call : Call) (stamp : Stamp) (old new : Call → Option CallState) (last : ℕ → ℕ) (drawn : Stamp → Bool) → Changes call (counting stamp) old new → Tells marks old last drawn → Tells marks new last drawn
tells_after_count marks call stamp old new last drawn is h = tells_after_change marks call (counting stamp) old new last drawn (counting_keeps stamp) is h

pub kept_after_count : (call : Call) (stamp : Stamp) (old new : Call → Option CallState) → Changes call (counting stamp) old new → (other : Call) (key : KeyId) (work : Work) → IsKept (old other) key work → IsKept (new other) key work
kept_after_count call stamp old new is other key work h = kept_on call (counting stamp) old new is (λ s. refl) (λ s. refl) other key work h

pub over : Ended ≡ Open → ⊥
over e = cc

-- a call counts, and ends
pub tells_after_counted_end : (marks : List Mark) (call : Call) (state : CallState) (stamp : Stamp) (reply : Reply) (old mid new : Call → Option CallState) (last : ℕ → ℕ) (drawn : Stamp → Bool)
    → old call ≡ Some state → Changes call (counting stamp) old mid → Changes call (ending_so Ended) mid new → Tells marks old last drawn → Tells (more marks (k.End call reply)) new last drawn
tells_after_counted_end marks call state stamp reply old mid new last drawn at counts ends h =
    let it = still_kept call (counting stamp) old mid counts call (state, at) in
    tells_after_end marks call it.0 reply Ended mid new last drawn over it.1 ends (tells_after_count marks call stamp old mid last drawn counts h)

-- what a read of the key gives
pub read_keeps : (marks : List Mark) (kept : Call → Option CallState) (last : ℕ → ℕ) (drawn : Stamp → Bool) → Tells marks kept last drawn → (call : Call) (key : KeyId) (stamp : Stamp) (value : List ℕ) → IsKept (kept call) key w.Read
    → KeepsForm marks (k.End call (r.Value stamp value)) → GivesWritten marks key (r.Value stamp value) → KeepsFirst marks (k.End call (r.Value stamp value))
read_keeps marks kept last drawn h call key stamp value is form gives = record {
  form = form;
  value = λ at c.
      let it = one_state marks kept last drawn h call is.state is.found at w.Read c in
      subst (λ (x : KeyId). GivesWritten marks x (r.Value stamp value)) (sym is.key_is ∙ it.0) gives;
}

-- a read that gives what was written counts, and ends
pub tells_after_read : (marks : List Mark) (call : Call) (key : KeyId) (stamp : Stamp) (reply : Reply) (given mid new : Call → Option CallState) (last : ℕ → ℕ) (drawn : Stamp → Bool)
    → IsKept (given call) key w.Read → Changes call (counting stamp) given mid → Changes call (ending_so Ended) mid new → Tells marks given last drawn → Tells (more marks (k.End call reply)) new last drawn
tells_after_read marks call key stamp reply given mid new last drawn is counts ends h = tells_after_counted_end marks call is.state stamp reply given mid new last drawn is.found counts ends h

pub reading_is_read : (work : Work) → is_reading work ≡ true → work ≡ w.Read
reading_is_read w.Read h = refl
reading_is_read (w.Write value) h = absurd (cc)
reading_is_read w.Get h = absurd (cc)
reading_is_read w.GetAny h = absurd (cc)
reading_is_read (w.Put value) h = absurd (cc)
reading_is_read w.Move h = absurd (cc)

-- the value that such work writes
pub writing_writes : (work : Work) → (answers_of work).loses ≡ true → (value : List ℕ) × (work ≡ w.Write value)
writing_writes w.Read h = absurd (cc h)
writing_writes (w.Write value) h = (value, refl)
writing_writes w.Get h = absurd (cc h)
writing_writes w.GetAny h = absurd (cc h)
writing_writes (w.Put value) h = absurd (cc h)
writing_writes w.Move h = absurd (cc h)

pub value_of_other : (marks : List Mark) (call : Call) (reply : Reply) → ((stamp : Stamp) (value : List ℕ) → reply ≡ r.Value stamp value → ⊥) → KeepsValue marks (k.End call reply)
value_of_other marks call (r.Value stamp value) other = absurd (other stamp value refl)
value_of_other marks call (r.Stored stamp) other = λ key c. tt
value_of_other marks call (r.At epoch) other = λ key c. tt
value_of_other marks call (r.Moved epoch) other = λ key c. tt
value_of_other marks call (r.Fenced held) other = λ key c. tt
value_of_other marks call r.Unsure other = λ key c. tt
value_of_other marks call (r.Current epoch) other = λ key c. tt
value_of_other marks call (r.Stale epoch) other = λ key c. tt
value_of_other marks call r.Outside other = λ key c. tt
value_of_other marks call r.Full other = λ key c. tt
value_of_other marks call r.NumbersOut other = λ key c. tt
value_of_other marks call r.GivenUp other = λ key c. tt
