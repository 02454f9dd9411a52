-- What is kept of calls that count goes on to be what the lines tell, where no call ends.
use Rattle.std.proofs.Common.{◌≡◌, ◌⊎◌, inl, inr, ℕ, ◌+◌, Bool, true, false, cond, List, [], Option, Some, None, refl, sym, ap, subst, ◌∙◌, arith}
use Rattle.std.specs.Prelude.{Contains}
use Rattle.std.proofs.lemmas.Option.{same_Some}
use Rattle.std.proofs.lemmas.List.Elements.{Contains-push_cases}
use Rattle.span_base.specs.declared.ids.Call.{Call}
use Rattle.span_base.specs.declared.ids.KeyId.{KeyId}
use Rattle.ticket_rules.specs.declared.stamp.Stamp.{Stamp}
use Rattle.ticket_rules.specs.Stamp.{stamp_zero, IsAtMost}
use Rattle.ticket_rules.proofs.StampOrder.{IsAbove-irrefl}
use Rattle.wire_msg.specs.declared.outputs.Reply.{Reply}
use Rattle.wire_msg.specs.declared.outputs.Reply.TheVariants as r
use Rattle.run_marks.specs.declared.mark.Work.{Work}
use Rattle.run_marks.specs.declared.mark.Mark.{Mark}
use Rattle.run_marks.specs.declared.mark.Mark.TheVariants as k
use Rattle.run_marks.specs.History.{call_of, is_same_call, is_ok, EndsBefore, EndsWith, IsGiven}
use Rattle.register_order.specs.Form.{IsNextTicket, KeepsCall}
use Rattle.register_order.specs.Clauses.{GivesWritten}
use Rattle.register_order.proofs.Tests.{same_call, call_is_itself, one_call}
use Rattle.history_audit.specs.declared.calls.CallState.{CallState}
use Rattle.history_audit.specs.declared.calls.Ending.TheVariants.{Open, Dead}
use Rattle.history_audit.specs.Calls.{drawing}
use Rattle.history_audit.specs.Told.{Tells}
use Rattle.history_audit.specs.Counted.{Answered, CountsWith, Counted, IsCounted, IsFloor}
use Rattle.history_audit.proofs.Telling.{more, still, IsOfNone}
use Rattle.history_audit.proofs.Changing.{Changes, changed}
use Rattle.history_audit.proofs.Beginning.{fresh}
use Rattle.history_audit.proofs.Events.{answered_before, answered_cases, answered_still, counts_cases, counts_still, ended_before, ends_before_there, floor_still, no_begin_again, read_cases, written_still, AnswersHere, CountsHere, ReadsHere}

-- the line neither begins the call nor ends it, and it doesn't count by it
pub record LeavesAlone (marks : List Mark) (mark : Mark) (call : Call) : Type 0 where
  pub begins : (key : KeyId) (work : Work) → mark ≡ k.Begin call key work → ⊥
  pub ends : (reply : Reply) → mark ≡ k.End call reply → ⊥
  pub counts : (stamp : Stamp) → CountsHere marks mark call stamp → ⊥

module _ (marks : List Mark) (mark : Mark) (kept : Call → Option CallState) (last : ℕ → ℕ) (drawn : Stamp → Bool) (h : Tells marks kept last drawn) (keeps : KeepsCall marks mark) where
  -- what was answered before the call began isn't above its floor
  pub floors_on : (call : Call) (state : CallState) → ((key : KeyId) (work : Work) → mark ≡ k.Begin call key work → ⊥) → IsCounted marks call state
      → (first : Call) (stamp : Stamp) → EndsBefore (more marks mark) first call → Answered (more marks mark) state.key first stamp → IsAtMost stamp state.floor
  floors_on call state no_begin c first stamp before answered =
      let there = ends_before_there marks mark first call no_begin before in
      let ended = ended_before marks first call there in
      c.floors first stamp there (answered_before marks mark kept last drawn h keeps state.key first stamp ended.0 ended.1 answered)

  pub counted_stays : (call : Call) (state : CallState) → LeavesAlone marks mark call → IsCounted marks call state → IsCounted (more marks mark) call state
  counted_stays call state alone c = record {
    counted = λ value stamp is with_. c.counted value stamp is (elim (counts_cases marks mark kept last drawn h keeps call stamp with_) as (λ _. CountsWith marks call stamp) [ inl old ↦ old | inr here ↦ absurd (alone.counts stamp here) ]);
    counts = λ value stamp is one. let it = c.counts value stamp is one in (counts_still marks mark call stamp it.0, it.1);
    writes = c.writes;
    reads = λ stamp value is ended. c.reads stamp value is (end_there (r.Value stamp value) ended);
    read_counted = λ stamp value does ended. c.read_counted stamp value does (end_there (r.Value stamp value) ended);
    read_counts = λ stamp does one. let it = c.read_counts stamp does one in (it.0, still marks mark (k.End call (r.Value stamp it.0)) it.1);
    others = c.others;
    dead = λ value reply is ended. c.dead value reply is (end_there reply ended);
    dies = λ is. let it = c.dies is in (it.0, still marks mark (k.End call it.0) it.1, it.2);
    lives = λ is reply ended. c.lives is reply (end_there reply ended);
    floors = floors_on call state alone.begins c;
    floor_is = floor_still marks mark state.key call state.floor c.floor_is;
  }
    where
      end_there : (reply : Reply) → EndsWith (more marks mark) call reply → EndsWith marks call reply
      end_there reply ended = elim (Contains-push_cases marks mark (k.End call reply) ended) as (λ _. EndsWith marks call reply) [ inl old ↦ old | inr is ↦ absurd (alone.ends reply is) ]

  -- where no read and no write is answered, the greatest stamps stay, and what reads gave
  pub record AnswersNone : Type 0 where
    pub reads : (key : KeyId) (call : Call) (stamp : Stamp) (value : List ℕ) → ReadsHere marks mark key call stamp value → ⊥
    pub answers : (key : KeyId) (call : Call) (stamp : Stamp) → AnswersHere marks mark key call stamp → ⊥

  pub counted_with_none : (top : ℕ → Stamp) (new : Call → Option CallState) (after : ℕ → Stamp) → AnswersNone → ((key : ℕ) → after key ≡ top key) → ((call : Call) (state : CallState) → new call ≡ Some state → IsCounted (more marks mark) call state) → Counted marks kept top
      → Counted (more marks mark) new after
  counted_with_none top new after none same each c = record {
    each = each;
    tops = λ key call stamp answered.
        elim (answered_cases marks mark kept last drawn h keeps key call stamp answered) as (λ _. IsAtMost stamp (after key.0)) [
          | inl old ↦ subst (λ (s : Stamp). IsAtMost stamp s) (sym (same key.0)) (c.tops key call stamp old)
          | inr here ↦ absurd (none.answers key call stamp here)
        ];
    top_is = λ key.
        subst (λ (s : Stamp). (s ≡ stamp_zero) ⊎ ((call : Call) × Answered (more marks mark) key call s)) (sym (same key.0))
        (elim (c.top_is key) as (λ _. (top key.0 ≡ stamp_zero) ⊎ ((call : Call) × Answered (more marks mark) key call (top key.0))) [
          | inl zero_ ↦ inl zero_
          | inr it ↦ inr (it.0, answered_still marks mark key it.0 (top key.0) it.1)
        ]);
    given = λ call key stamp value begun ended.
        elim (read_cases marks mark kept last drawn h keeps call key stamp value begun ended) as (λ _. GivesWritten (more marks mark) key (r.Value stamp value)) [
          | inl old ↦ written_still marks mark key stamp value (c.given call key stamp value old.0 old.1)
          | inr here ↦ absurd (none.reads key call stamp value here)
        ];
  }

-- a line of no call
pub counted_after_none : (marks : List Mark) (mark : Mark) (kept : Call → Option CallState) (last : ℕ → ℕ) (drawn : Stamp → Bool) (top : ℕ → Stamp) → Tells marks kept last drawn → KeepsCall marks mark → IsOfNone mark → Counted marks kept top
    → Counted (more marks mark) kept top
counted_after_none marks mark kept last drawn top h keeps of_none c =
    counted_with_none marks mark kept last drawn h keeps top kept top
    (record { reads = reads; answers = λ key call stamp here. elim here as (λ _. ⊥) [ inl it ↦ reads key call stamp it.0 it.1 | inr it ↦ no_end call (r.Stored stamp) it.1.is ] })
    (λ key. refl)
    (λ call state at. counted_stays marks mark kept last drawn h keeps call state (alone call) (c.each call state at)) c
  where
    no_end : (call : Call) (reply : Reply) → mark ≡ k.End call reply → ⊥
    no_end call reply e = (of_none.passes call).no_end reply e

    reads : (key : KeyId) (call : Call) (stamp : Stamp) (value : List ℕ) → ReadsHere marks mark key call stamp value → ⊥
    reads key call stamp value here = no_end call (r.Value stamp value) here.is

    counts_not : (call : Call) (stamp : Stamp) → CountsHere marks mark call stamp → ⊥
    counts_not call stamp (inl is) = no_end call (r.Stored stamp) is
    counts_not call stamp (inr (inl it)) = (of_none.passes call).no_ticket stamp it.0
    counts_not call stamp (inr (inr it)) = let here = it.1 in no_end here.0 (r.Value stamp here.2) here.3.is

    alone : (call : Call) → LeavesAlone marks mark call
    alone call = record { begins = of_none.begins call; ends = no_end call; counts = counts_not call }

-- a ticket is drawn: no read gave it before
module _ (marks : List Mark) (call : Call) (stamp : Stamp) (kept : Call → Option CallState) (last : ℕ → ℕ) (drawn : Stamp → Bool) (top : ℕ → Stamp) (h : Tells marks kept last drawn) (keeps : KeepsCall marks (k.Ticket call stamp)) (next : IsNextTicket marks call stamp) (c : Counted marks kept top) where
  not_given : IsGiven marks stamp → ⊥
  not_given g = elim (c.given g.reader g.reads.read.0 stamp g.value g.reads.read.1 g.reads.ended) as (λ _. ⊥) [
    | inl none ↦ let n = next.number in let e = ap (λ (s : Stamp). s.number) none.0 in absurd (omega (arith, n, e))
    | inr it ↦
        let own = h.own it.1.writer stamp it.1.ticket in
        let same = one_call it.1.writer.proxy call.proxy it.1.writer.seq call.seq (sym own.0 ∙ next.proxy) (sym own.1 ∙ next.seq) in
        IsAbove-irrefl stamp (next.above stamp (subst (λ (d : Call). Contains marks (k.Ticket d stamp)) same it.1.ticket))
  ]

  pub counted_after_ticket : (new : Call → Option CallState) → Changes call (drawing stamp) kept new → Counted (more marks (k.Ticket call stamp)) new top
  counted_after_ticket new is = counted_with_none marks mark kept last drawn h keeps top new top (record { reads = reads; answers = answers }) (λ key. refl) each c
    where
      mark : Mark
      mark = k.Ticket call stamp

      no_end : (other : Call) (reply : Reply) → mark ≡ k.End other reply → ⊥
      no_end other reply e = cc

      no_begin : (other : Call) (key : KeyId) (work : Work) → mark ≡ k.Begin other key work → ⊥
      no_begin other key work e = cc

      stamp_in : (other : Call) (one : Stamp) → mark ≡ k.Ticket other one → one ≡ stamp
      stamp_in other one e = cc

      reads : (key : KeyId) (other : Call) (one : Stamp) (value : List ℕ) → ReadsHere marks mark key other one value → ⊥
      reads key other one value here = no_end other (r.Value one value) here.is

      answers : (key : KeyId) (other : Call) (one : Stamp) → AnswersHere marks mark key other one → ⊥
      answers key other one (inl it) = reads key other one it.0 it.1
      answers key other one (inr it) = no_end other (r.Stored one) it.1.is

      counts_not : (other : Call) (one : Stamp) → CountsHere marks mark other one → ⊥
      counts_not other one (inl e) = no_end other (r.Stored one) e
      counts_not other one (inr (inl it)) = not_given (subst (λ (s : Stamp). IsGiven marks s) (stamp_in other one it.0) it.1)
      counts_not other one (inr (inr it)) = let here = it.1 in no_end here.0 (r.Value one here.2) here.3.is

      stays : (other : Call) (state : CallState) → kept other ≡ Some state → IsCounted (more marks mark) other state
      stays other state at = counted_stays marks mark kept last drawn h keeps other state (record { begins = no_begin other; ends = no_end other; counts = counts_not other }) (c.each other state at)

      same_but_latest : (other : Call) (s : CallState) → IsCounted (more marks mark) other s → IsCounted (more marks mark) other (drawing stamp s)
      same_but_latest other s i = record { counted = i.counted; counts = i.counts; writes = i.writes; reads = i.reads; read_counted = i.read_counted; read_counts = i.read_counts; others = i.others; dead = i.dead; dies = i.dies; lives = i.lives; floors = i.floors; floor_is = i.floor_is }

      each : (other : Call) (now : CallState) → new other ≡ Some now → IsCounted (more marks mark) other now
      each other now found = elim (changed call (drawing stamp) kept new is other now found) as (λ _. IsCounted (more marks mark) other now) [
        | inl same ↦ stays other now same.1
        | inr it ↦ subst (λ (d : Call). IsCounted (more marks mark) d now) it.0 (subst (λ (s : CallState). IsCounted (more marks mark) call s) (sym it.1.2) (same_but_latest call it.1.0 (stays call it.1.0 it.1.1)))
      ]

-- a call begins: its floor is the greatest stamp of its key
pub counted_after_begin : (marks : List Mark) (call : Call) (key : KeyId) (work : Work) (old new : Call → Option CallState) (last : ℕ → ℕ) (drawn : Stamp → Bool) (top after : ℕ → Stamp)
    → call.seq ≡ last call.proxy + 1 → ((other : Call) → new other ≡ cond (is_same_call call other) (Some (fresh key work (top key.0))) (old other)) → ((other : ℕ) → after other ≡ top other)
    → Tells marks old last drawn → KeepsCall marks (k.Begin call key work) → Counted marks old top → Counted (more marks (k.Begin call key work)) new after
counted_after_begin marks call key work old new last drawn top after next is same h keeps c = counted_with_none marks mark old last drawn h keeps top new after (record { reads = reads; answers = answers }) same each c
  where
    mark : Mark
    mark = k.Begin call key work

    no_end : (other : Call) (reply : Reply) → mark ≡ k.End other reply → ⊥
    no_end other reply e = cc

    no_ticket : (other : Call) (one : Stamp) → mark ≡ k.Ticket other one → ⊥
    no_ticket other one e = cc

    call_in : (other : Call) (at : KeyId) (does : Work) → mark ≡ k.Begin other at does → call ≡ other
    call_in other at does e = cc

    reads : (at : KeyId) (other : Call) (one : Stamp) (value : List ℕ) → ReadsHere marks mark at other one value → ⊥
    reads at other one value here = no_end other (r.Value one value) here.is

    answers : (at : KeyId) (other : Call) (one : Stamp) → AnswersHere marks mark at other one → ⊥
    answers at other one (inl it) = reads at other one it.0 it.1
    answers at other one (inr it) = no_end other (r.Stored one) it.1.is

    counts_not : (other : Call) (one : Stamp) → CountsHere marks mark other one → ⊥
    counts_not other one (inl e) = no_end other (r.Stored one) e
    counts_not other one (inr (inl it)) = no_ticket other one it.0
    counts_not other one (inr (inr it)) = let here = it.1 in no_end here.0 (r.Value one here.2) here.3.is

    -- no line speaks of the call
    not_told : (one : Mark) → Contains marks one → call_of one ≡ Some call → ⊥
    not_told one c_ of = no_begin_again marks mark old last drawn h keeps call one c_ of key work refl

    not_ended : (reply : Reply) → EndsWith (more marks mark) call reply → ⊥
    not_ended reply ended = elim (Contains-push_cases marks mark (k.End call reply) ended) as (λ _. ⊥) [ inl before ↦ not_told (k.End call reply) before refl | inr e ↦ no_end call reply e ]

    not_counted : (stamp : Stamp) → CountsWith (more marks mark) call stamp → ⊥
    not_counted stamp with_ = elim (counts_cases marks mark old last drawn h keeps call stamp with_) as (λ _. ⊥) [
      | inl before ↦ elim before as (λ _. ⊥) [ inl ended ↦ not_told (k.End call (r.Stored stamp)) ended refl | inr it ↦ not_told (k.Ticket call stamp) it.0 refl ]
      | inr here ↦ counts_not call stamp here
    ]

    -- what was answered before the call began
    floors : (first : Call) (stamp : Stamp) → EndsBefore (more marks mark) first call → Answered (more marks mark) key first stamp → IsAtMost stamp (top key.0)
    floors first stamp before answered = elim (answered_cases marks mark old last drawn h keeps key first stamp answered) as (λ _. IsAtMost stamp (top key.0)) [
      | inl was ↦ c.tops key first stamp was
      | inr here ↦ absurd (answers key first stamp here)
    ]

    before_call : (first : Call) (reply : Reply) → EndsWith marks first reply → is_ok reply ≡ true → EndsBefore (more marks mark) first call
    before_call first reply ended ok = record { earlier = marks; later = []; key = key; work = work; split = refl; reply = reply; answered = ok; ended = ended }

    floor_is : IsFloor (more marks mark) key call (top key.0)
    floor_is = elim (c.top_is key) as (λ _. IsFloor (more marks mark) key call (top key.0)) [
      | inl none ↦ inl none
      | inr it ↦ inr (
        it.0,
        elim it.1 as (λ _. EndsBefore (more marks mark) it.0 call) [ inl read ↦ before_call it.0 (r.Value (top key.0) read.0) read.2 refl | inr write ↦ before_call it.0 (r.Stored (top key.0)) write.2 refl ],
        answered_still marks mark key it.0 (top key.0) it.1,
      )
    ]

    over : Open ≡ Dead → ⊥
    over e = cc

    no_stamp : (s : Stamp) → None ≡ Some s → ⊥
    no_stamp s e = cc

    first_state : IsCounted (more marks mark) call (fresh key work (top key.0))
    first_state = record {
      counted = λ value stamp does with_. absurd (not_counted stamp with_);
      counts = λ value stamp does one. absurd (no_stamp stamp one);
      writes = λ stamp open_ one. absurd (no_stamp stamp one);
      reads = λ stamp value does ended. absurd (not_ended (r.Value stamp value) ended);
      read_counted = λ stamp value does ended. absurd (not_ended (r.Value stamp value) ended);
      read_counts = λ stamp does one. absurd (no_stamp stamp one);
      others = λ other. refl;
      dead = λ value reply does ended dead_. refl;
      dies = λ e. absurd (over e);
      lives = λ alive reply ended. absurd (not_ended reply ended);
      floors = floors;
      floor_is = floor_is;
    }

    by_test : (other : Call) (now : CallState) → new other ≡ Some now → (b : Bool) → is_same_call call other ≡ b → IsCounted (more marks mark) other now
    by_test other now found true e =
        let at = subst (λ (b : Bool). new other ≡ cond b (Some (fresh key work (top key.0))) (old other)) e (is other) in
        let now_is = same_Some (fresh key work (top key.0)) now (sym at ∙ found) in
        subst (λ (d : Call). IsCounted (more marks mark) d now) (same_call call other e) (subst (λ (s : CallState). IsCounted (more marks mark) call s) now_is first_state)
    by_test other now found false e =
        let at = subst (λ (b : Bool). new other ≡ cond b (Some (fresh key work (top key.0))) (old other)) e (is other) in
        let was = sym at ∙ found in
        counted_stays marks mark old last drawn h keeps other now
        (record {
          begins = λ key_ does begins. no_other other e (call_in other key_ does begins);
          ends = no_end other;
          counts = counts_not other;
        }) (c.each other now was)
      where
        no_other : (d : Call) → is_same_call call d ≡ false → call ≡ d → ⊥
        no_other d apart one = let f = subst (λ (x : Call). is_same_call call x ≡ true) one (call_is_itself call) in cc (f, apart)

    each : (other : Call) (now : CallState) → new other ≡ Some now → IsCounted (more marks mark) other now
    each other now found = by_test other now found (is_same_call call other) refl
