-- A ticket is taken, or breaks a clause.
use Rattle.std.proofs.Common.{◌≡◌, ◌≢◌, inl, inr, ℕ, ◌≤◌, Bool, true, false, cond, List, Option, Some, None, refl, sym, ap, subst, ◌∙◌, arith}
use Rattle.std.specs.Prelude.{Contains}
use Rattle.std.proofs.lemmas.Grind.{common_steps}
use Rattle.std.proofs.lemmas.Option.{same_Some}
use Rattle.std.proofs.lemmas.List.Elements.{Contains-push, Contains-push_cases}
use Rattle.span_base.specs.declared.ids.Call.{Call}
use Rattle.span_base.specs.declared.ids.KeyId.{KeyId}
use Rattle.ticket_rules.specs.declared.stamp.Stamp.{Stamp}
use Rattle.ticket_rules.specs.Stamp.{IsAbove, IsAtMost}
use Rattle.run_marks.specs.declared.mark.Work.{Work}
use Rattle.run_marks.specs.declared.mark.Mark.{Mark}
use Rattle.run_marks.specs.declared.mark.Mark.TheVariants as k
use Rattle.run_marks.specs.History.{is_same_call}
use Rattle.register_order.specs.Form.{draws, IsOpen, IsNextTicket}
use Rattle.register_order.specs.Order.{is_same_stamp}
use Rattle.register_order.proofs.Tests.{call_is_itself, same_stamp, stamp_is_itself}
use Rattle.register_order.proofs.Stamps.{IsAtMost-same, IsAtMost-from_above, above_from_at_most}
use Rattle.history_audit.specs.declared.calls.CallState.{CallState}
use Rattle.history_audit.specs.declared.calls.Ending.TheVariants.{Open}
use Rattle.history_audit.specs.declared.fault.Clause.{Clause}
use Rattle.history_audit.specs.declared.fault.Clause.TheVariants as clause
use Rattle.history_audit.specs.Calls.{drawing}
use Rattle.history_audit.specs.Judged.{IsNext, IsAboveLast, TicketBreaks}
use Rattle.history_audit.specs.Told.{HasLatest, IsTold, Tells, KeepsFirst}
use Rattle.history_audit.specs.Judging.{BreaksFirst}
use Rattle.history_audit.proofs.Telling.{more, still}
use Rattle.history_audit.proofs.Changing.{Changes, IsOfCall, TicketsAre, tells_after_line}

-- the state that is kept of a call that has begun so
pub one_state : (marks : List Mark) (kept : Call → Option CallState) (last : ℕ → ℕ) (drawn : Stamp → Bool) → Tells marks kept last drawn → (call : Call) (state : CallState) → kept call ≡ Some state
    → (key : KeyId) (work : Work) → Contains marks (k.Begin call key work) → (state.key ≡ key) × (state.work ≡ work)
one_state marks kept last drawn h call state at key work c =
    let it = h.begun call key work c in
    let same = same_Some it.state state (sym it.found ∙ at) in
    (ap (λ (s : CallState). s.key) (sym same) ∙ it.key_is, ap (λ (s : CallState). s.work) (sym same) ∙ it.work_is)

pub open_call : (marks : List Mark) (call : Call) (state : CallState) → IsTold marks call state → state.ending ≡ Open → IsOpen marks call
open_call marks call state told open_ = record { key = state.key; work = state.work; begun = told.begun; unended = told.unended open_ }

pub ended_call : (marks : List Mark) (call : Call) (state : CallState) → IsTold marks call state → state.ending ≢ Open → IsOpen marks call → ⊥
ended_call marks call state told over open_ = let it = told.ended over in open_.unended it.0 it.1

pub unknown_call : (marks : List Mark) (kept : Call → Option CallState) (last : ℕ → ℕ) (drawn : Stamp → Bool) → Tells marks kept last drawn → (call : Call) → kept call ≡ None → IsOpen marks call → ⊥
unknown_call marks kept last drawn h call none open_ = let it = h.begun call open_.key open_.work open_.begun in cc (sym none ∙ it.found)

-- a ticket that is next is so to the lines
pub next_ticket : (marks : List Mark) (call : Call) (latest : Option Stamp) (stamp : Stamp) → HasLatest marks call latest → IsNext latest call stamp → IsNextTicket marks call stamp
next_ticket marks call latest stamp has next = record { proxy = next.proxy; seq = next.seq; number = next.number; above = λ earlier c. by_latest latest has next.above earlier c }
  where
    by_latest : (l : Option Stamp) → HasLatest marks call l → IsAboveLast l stamp → (earlier : Stamp) → Contains marks (k.Ticket call earlier) → IsAbove stamp earlier
    by_latest None has_ above earlier c = absurd (has_ earlier c)
    by_latest (Some l) has_ above earlier c = above_from_at_most earlier l stamp above (has_.latest earlier c)

pub next_from_lines : (marks : List Mark) (call : Call) (latest : Option Stamp) (stamp : Stamp) → HasLatest marks call latest → IsNextTicket marks call stamp → IsNext latest call stamp
next_from_lines marks call latest stamp has next = record { proxy = next.proxy; seq = next.seq; number = next.number; above = by_latest latest has }
  where
    by_latest : (l : Option Stamp) → HasLatest marks call l → IsAboveLast l stamp
    by_latest None has_ = tt
    by_latest (Some l) has_ = next.above l has_.drawn

pub ticket_keeps : (marks : List Mark) (kept : Call → Option CallState) (last : ℕ → ℕ) (drawn : Stamp → Bool) → Tells marks kept last drawn → (call : Call) (state : CallState) (stamp : Stamp) → kept call ≡ Some state
    → state.ending ≡ Open → draws state.work ≡ true → IsNext state.latest call stamp → KeepsFirst marks (k.Ticket call stamp)
ticket_keeps marks kept last drawn h call state stamp at open_ drawing_ next =
    let told = h.told call state at in
    record {
      form = record {
        call = open_call marks call state told open_;
        kind = λ key work c. ap draws (sym (one_state marks kept last drawn h call state at key work c).1) ∙ drawing_;
        stamp = next_ticket marks call state.latest stamp told.latest next;
      };
      value = tt;
    }

ticket_is_of_call : (call : Call) (stamp : Stamp) → IsOfCall (k.Ticket call stamp) call
ticket_is_of_call call stamp = record {
  passes = λ other apart. record { no_ticket = λ one e. not_other other apart (call_in one other e); no_end = λ reply e. cc };
  names = refl;
  begins = λ other key work e. cc;
  numbers = λ proxy last. refl;
}
  where
    call_in : (one : Stamp) (other : Call) → k.Ticket call stamp ≡ k.Ticket other one → call ≡ other
    call_in one other e = cc

    not_other : (other : Call) → is_same_call call other ≡ false → call ≡ other → ⊥
    not_other other apart same = let e = subst (λ (c : Call). is_same_call call c ≡ true) same (call_is_itself call) in cc (e, apart)

tickets_after : (marks : List Mark) (call : Call) (stamp : Stamp) (kept : Call → Option CallState) (last : ℕ → ℕ) (drawn after : Stamp → Bool) → (stamp.proxy ≡ call.proxy) × (stamp.seq ≡ call.seq) × (1 ≤ stamp.number)
    → Tells marks kept last drawn → ((other : Stamp) → after other ≡ cond (is_same_stamp stamp other) true (drawn other)) → TicketsAre (more marks (k.Ticket call stamp)) after
tickets_after marks call stamp kept last drawn after own h is = record { was = was; drawn_is = drawn_is; own = owned }
  where
    ticket_in : (other : Call) (one : Stamp) → k.Ticket call stamp ≡ k.Ticket other one → (call ≡ other) × (stamp ≡ one)
    ticket_in other one e = (cc, cc)

    was : (one : Stamp) → after one ≡ true → (c : Call) × Contains (more marks (k.Ticket call stamp)) (k.Ticket c one)
    was one yes_ = by_test (is_same_stamp stamp one) refl
      where
        by_test : (b : Bool) → is_same_stamp stamp one ≡ b → (c : Call) × Contains (more marks (k.Ticket call stamp)) (k.Ticket c one)
        by_test true same = (call, subst (λ (s : Stamp). Contains (more marks (k.Ticket call stamp)) (k.Ticket call s)) (same_stamp stamp one same) (Contains-push marks (k.Ticket call stamp)))
        by_test false same =
            let e = subst (λ (b : Bool). after one ≡ cond b true (drawn one)) same (is one) in
            let it = h.was one (sym e ∙ yes_) in
            (it.0, still marks (k.Ticket call stamp) (k.Ticket it.0 one) it.1)

    drawn_is : (c : Call) (one : Stamp) → Contains (more marks (k.Ticket call stamp)) (k.Ticket c one) → after one ≡ true
    drawn_is c one there = elim (Contains-push_cases marks (k.Ticket call stamp) (k.Ticket c one) there) as (λ _. after one ≡ true) [
      | inl old ↦ is one ∙ by_test (is_same_stamp stamp one) (h.drawn_is c one old)
      | inr new ↦
          let same = (ticket_in c one new).1 in
          let e = subst (λ (s : Stamp). is_same_stamp stamp s ≡ true) same (stamp_is_itself stamp) in
          subst (λ (b : Bool). after one ≡ cond b true (drawn one)) e (is one)
    ]
      where
        by_test : (b : Bool) → drawn one ≡ true → cond b true (drawn one) ≡ true
        by_test true d = refl
        by_test false d = d

    owned : (c : Call) (one : Stamp) → Contains (more marks (k.Ticket call stamp)) (k.Ticket c one) → (one.proxy ≡ c.proxy) × (one.seq ≡ c.seq) × (1 ≤ one.number)
    owned c one there = elim (Contains-push_cases marks (k.Ticket call stamp) (k.Ticket c one) there) as (λ _. (one.proxy ≡ c.proxy) × (one.seq ≡ c.seq) × (1 ≤ one.number)) [
      | inl old ↦ h.own c one old
      | inr new ↦
          let same = ticket_in c one new in
          subst (λ (d : Call). (one.proxy ≡ d.proxy) × (one.seq ≡ d.seq) × (1 ≤ one.number)) same.0 (subst (λ (s : Stamp). (s.proxy ≡ call.proxy) × (s.seq ≡ call.seq) × (1 ≤ s.number)) same.1 own)
    ]

pub tells_after_ticket : (marks : List Mark) (call : Call) (state : CallState) (stamp : Stamp) (old new : Call → Option CallState) (last : ℕ → ℕ) (drawn after : Stamp → Bool)
    → old call ≡ Some state → IsNext state.latest call stamp → Changes call (drawing stamp) old new → ((other : Stamp) → after other ≡ cond (is_same_stamp stamp other) true (drawn other)) → Tells marks old last drawn
    → Tells (more marks (k.Ticket call stamp)) new last after
tells_after_ticket marks call state stamp old new last drawn after at next is tickets h =
    tells_after_line marks (k.Ticket call stamp) call state (drawing stamp) old new last drawn after (ticket_is_of_call call stamp) (λ s. refl) (λ s. refl) is at told (tickets_after marks call stamp old last drawn after (next.proxy, next.seq, next.number) h tickets) h
  where
    was : IsTold marks call state
    was = h.told call state at

    latest : (earlier : Stamp) → Contains (more marks (k.Ticket call stamp)) (k.Ticket call earlier) → IsAtMost earlier stamp
    latest earlier c = elim (Contains-push_cases marks (k.Ticket call stamp) (k.Ticket call earlier) c) as (λ _. IsAtMost earlier stamp) [
      | inl before ↦ IsAtMost-from_above earlier stamp ((next_ticket marks call state.latest stamp was.latest next).above earlier before)
      | inr same ↦ IsAtMost-same earlier stamp (same_ticket earlier same)
    ]
      where
        same_ticket : (earlier : Stamp) → k.Ticket call stamp ≡ k.Ticket call earlier → earlier ≡ stamp
        same_ticket earlier e = cc

    told : IsTold (more marks (k.Ticket call stamp)) call (drawing stamp state)
    told = record {
      begun = still marks (k.Ticket call stamp) (k.Begin call state.key state.work) was.begun;
      unended = λ open_ reply c. elim (Contains-push_cases marks (k.Ticket call stamp) (k.End call reply) c) as (λ _. ⊥) [ inl before ↦ was.unended open_ reply before | inr e ↦ absurd (cc) ];
      ended = λ over. let it = was.ended over in (it.0, still marks (k.Ticket call stamp) (k.End call it.0) it.1);
      latest = record { drawn = Contains-push marks (k.Ticket call stamp); latest = latest };
    }

pub ticket_breaks : (marks : List Mark) (kept : Call → Option CallState) (last : ℕ → ℕ) (drawn : Stamp → Bool) → Tells marks kept last drawn → (call : Call) (state : CallState) (stamp : Stamp) → kept call ≡ Some state
    → (broken : Clause) → TicketBreaks state call stamp (Some broken) → BreaksFirst marks (k.Ticket call stamp) broken
ticket_breaks marks kept last drawn h call state stamp at clause.Call over = ended_call marks call state (h.told call state at) over
ticket_breaks marks kept last drawn h call state stamp at clause.Kind b =
    let told = h.told call state at in
    (open_call marks call state told b.0, λ kind. let e = kind state.key state.work told.begun in cc (e, b.1))
ticket_breaks marks kept last drawn h call state stamp at clause.Stamp b =
    let told = h.told call state at in
    (open_call marks call state told b.0, λ key work c. ap draws (sym (one_state marks kept last drawn h call state at key work c).1) ∙ b.1, λ next. b.2 (next_from_lines marks call state.latest stamp told.latest next))
ticket_breaks marks kept last drawn h call state stamp at clause.Value b = absurd b
ticket_breaks marks kept last drawn h call state stamp at clause.Dead b = absurd b
ticket_breaks marks kept last drawn h call state stamp at clause.Order b = absurd b
