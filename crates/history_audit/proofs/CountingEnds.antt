-- A call ends: what is kept of calls that count goes on to be what the lines tell.
use Rattle.std.proofs.Common.{◌≡◌, ◌⊎◌, inl, inr, ℕ, Bool, true, false, cond, ◌==◌, if◌then◌else◌, List, Option, Some, None, refl, sym, ap, subst, ◌∙◌}
use Rattle.std.specs.Prelude.{Contains}
use Rattle.std.specs.Ordering.{is_gt}
use Rattle.std.specs.declared.cmp.Ordering.{Ordering}
use Rattle.std.specs.declared.cmp.Ordering.TheVariants.{Less, Equal, Greater}
use Rattle.std.proofs.lemmas.Bool.{eqb-true, eq-eqb}
use Rattle.std.proofs.lemmas.Option.{same_Some}
use Rattle.std.proofs.lemmas.List.Elements.{Contains-push, Contains-push_cases}
use Rattle.span_base.specs.declared.ids.Call.{Call}
use Rattle.span_base.specs.declared.ids.KeyId.{KeyId}
use Rattle.ticket_rules.specs.declared.stamp.Stamp.{Stamp}
use Rattle.ticket_rules.specs.Stamp.{stamp_zero, stamp_cmp, greater, IsAbove, IsAtMost}
use Rattle.wire_msg.specs.declared.outputs.Reply.{Reply}
use Rattle.wire_msg.specs.declared.outputs.Reply.TheVariants as r
use Rattle.run_marks.specs.declared.mark.Work.{Work}
use Rattle.run_marks.specs.declared.mark.Work.TheVariants as w
use Rattle.run_marks.specs.declared.mark.Mark.{Mark}
use Rattle.run_marks.specs.declared.mark.Mark.TheVariants as k
use Rattle.run_marks.specs.History.{is_same_call, is_dead, is_register_work, EndsWith}
use Rattle.register_order.specs.Form.{IsOpen, KeepsCall}
use Rattle.register_order.specs.Clauses.{GivesWritten}
use Rattle.register_order.proofs.Stamps.{IsAtMost-same, IsAtMost-from_above, IsAtMost-trans}
use Rattle.register_order.proofs.Tests.{call_is_itself}
use Rattle.history_audit.specs.declared.calls.CallState.{CallState}
use Rattle.history_audit.specs.declared.calls.Ending.{Ending}
use Rattle.history_audit.specs.declared.calls.Ending.TheVariants.{Open, Ended, Dead}
use Rattle.history_audit.specs.Calls.{ending_so}
use Rattle.history_audit.specs.Judged.{CountsAs}
use Rattle.history_audit.specs.Told.{Tells}
use Rattle.history_audit.specs.Counted.{Answered, CountsWith, Counted, IsCounted}
use Rattle.history_audit.specs.Judging.{TellsNoStamp}
use Rattle.history_audit.proofs.Telling.{more, still}
use Rattle.history_audit.proofs.Changing.{Changes, changed}
use Rattle.history_audit.proofs.Tickets.{one_state}
use Rattle.history_audit.proofs.Events.{answered_cases, answered_still, counts_cases, counts_still, floor_still, read_cases, written_still, AnswersHere, CountsHere, ReadsHere, StoresHere}
use Rattle.history_audit.proofs.Counting.{counted_stays, counted_with_none, floors_on}
use Rattle.span_base.proofs.KeyIds.{same_key}

-- the greater of two stamps is one of them, and neither is above it
greater_is : (a b : Stamp) → (greater a b ≡ a) ⊎ (greater a b ≡ b)
greater_is a b = by_test (is_gt (stamp_cmp b a))
  where
    by_test : (t : Bool) → ((if t then b else a) ≡ a) ⊎ ((if t then b else a) ≡ b)
    by_test true = inr refl
    by_test false = inl refl

greater_left : (a b : Stamp) → IsAtMost a (greater a b)
greater_left a b = by_order (stamp_cmp b a) refl
  where
    by_order : (o : Ordering) → stamp_cmp b a ≡ o → IsAtMost a (if is_gt o then b else a)
    by_order Less e = IsAtMost-same a a refl
    by_order Equal e = IsAtMost-same a a refl
    by_order Greater e = IsAtMost-from_above a b e

greater_right : (a b : Stamp) → IsAtMost b (greater a b)
greater_right a b = by_order (stamp_cmp b a) refl
  where
    by_order : (o : Ordering) → stamp_cmp b a ≡ o → IsAtMost b (if is_gt o then b else a)
    by_order Less e = λ above. let f = sym e ∙ above in cc f
    by_order Equal e = λ above. let f = sym e ∙ above in cc f
    by_order Greater e = IsAtMost-same b b refl

-- a write that may count with this stamp is above its floor with it, and counts with no other
pub may_count_above : (marks : List Mark) (call : Call) (state : CallState) (value : List ℕ) (stamp : Stamp) → IsCounted marks call state → state.work ≡ w.Write value → CountsAs state.counted state.floor stamp → IsAbove stamp state.floor
may_count_above marks call state value stamp c is may = by_count state.counted refl may
  where
    by_count : (o : Option Stamp) → state.counted ≡ o → CountsAs o state.floor stamp → IsAbove stamp state.floor
    by_count None e m = m
    by_count (Some one) e m = (c.counts value stamp is (e ∙ ap (λ (s : Stamp). Some s) m)).1

pub may_count_one : (marks : List Mark) (call : Call) (state : CallState) (value : List ℕ) (stamp other : Stamp) → IsCounted marks call state → state.work ≡ w.Write value → CountsAs state.counted state.floor stamp → CountsWith marks call other → other ≡ stamp
may_count_one marks call state value stamp other c is may with_ = by_count state.counted (c.counted value other is with_) may
  where
    by_count : (o : Option Stamp) → o ≡ Some other → CountsAs o state.floor stamp → other ≡ stamp
    by_count None e m = absurd (cc e)
    by_count (Some one) e m = sym (same_Some one other e) ∙ m

module _ (marks : List Mark) (call : Call) (reply : Reply) (kept : Call → Option CallState) (last : ℕ → ℕ) (drawn : Stamp → Bool) (h : Tells marks kept last drawn) (keeps : KeepsCall marks (k.End call reply)) where
  -- what the call's state has to say at its end
  pub record OwnEnds (state : CallState) (count : Option Stamp) (ending : Ending) : Type 0 where
    pub counted : (value : List ℕ) (stamp : Stamp) → state.work ≡ w.Write value → CountsWith (more marks (k.End call reply)) call stamp → count ≡ Some stamp
    pub counts : (value : List ℕ) (stamp : Stamp) → state.work ≡ w.Write value → count ≡ Some stamp → CountsWith (more marks (k.End call reply)) call stamp × IsAbove stamp state.floor
    pub reads : (stamp : Stamp) (value : List ℕ) → state.work ≡ w.Read → reply ≡ r.Value stamp value → IsAtMost state.floor stamp
    pub read_counted : (stamp : Stamp) (value : List ℕ) → state.work ≡ w.Read → reply ≡ r.Value stamp value → count ≡ Some stamp
    pub read_counts : (stamp : Stamp) → state.work ≡ w.Read → count ≡ Some stamp → (value : List ℕ) × EndsWith (more marks (k.End call reply)) call (r.Value stamp value)
    pub others : is_register_work state.work ≡ false → count ≡ None
    pub dead : (value : List ℕ) → state.work ≡ w.Write value → is_dead reply ≡ true → count ≡ None
    pub ending_is : ending ≡ cond (is_dead reply) Dead Ended

  no_begin : (other : Call) (key : KeyId) (work : Work) → k.End call reply ≡ k.Begin other key work → ⊥
  no_begin other key work e = cc

  no_ticket : (other : Call) (stamp : Stamp) → k.End call reply ≡ k.Ticket other stamp → ⊥
  no_ticket other stamp e = cc

  pub end_in : (other : Call) (one : Reply) → k.End call reply ≡ k.End other one → (call ≡ other) × (one ≡ reply)
  end_in other one e = (cc, cc)

  pub apart_call : (other : Call) → is_same_call call other ≡ false → call ≡ other → ⊥
  apart_call other apart same = let e = subst (λ (c : Call). is_same_call call c ≡ true) same (call_is_itself call) in cc (e, apart)

  pub not_ended : (one : Reply) → EndsWith marks call one → ⊥
  not_ended one ended = let open_ : IsOpen marks call = keeps in open_.unended one ended

  pub own_ends : (state : CallState) (count : Option Stamp) (ending : Ending) → OwnEnds state count ending → IsCounted marks call state → IsCounted (more marks (k.End call reply)) call (record state { counted = count; ending = ending })
  own_ends state count ending own c = record {
    counted = own.counted;
    counts = own.counts;
    writes = λ stamp open_ one. absurd (never_open (is_dead reply) (sym own.ending_is ∙ open_));
    reads = λ stamp value is ended. own.reads stamp value is (sym (ended_is (r.Value stamp value) ended));
    read_counted = λ stamp value is ended. own.read_counted stamp value is (sym (ended_is (r.Value stamp value) ended));
    read_counts = own.read_counts;
    others = own.others;
    dead = λ value one is ended dead_. own.dead value is (subst (λ (x : Reply). is_dead x ≡ true) (ended_is one ended) dead_);
    dies = λ e. (reply, Contains-push marks (k.End call reply), dead_by (is_dead reply) (sym own.ending_is ∙ e));
    lives = λ alive one ended. subst (λ (x : Reply). is_dead x ≡ false) (sym (ended_is one ended)) (alive_by (is_dead reply) (λ e. alive (own.ending_is ∙ e)));
    floors = floors_on marks (k.End call reply) kept last drawn h keeps call state (no_begin call) c;
    floor_is = floor_still marks (k.End call reply) state.key call state.floor c.floor_is;
  }
    where
      never_open : (b : Bool) → cond b Dead Ended ≡ Open → ⊥
      never_open true e = cc e
      never_open false e = cc e

      dead_by : (b : Bool) → cond b Dead Ended ≡ Dead → b ≡ true
      dead_by true e = refl
      dead_by false e = absurd (cc e)

      alive_by : (b : Bool) → (cond b Dead Ended ≡ Dead → ⊥) → b ≡ false
      alive_by true e = absurd (e refl)
      alive_by false e = refl

      ended_is : (one : Reply) → EndsWith (more marks (k.End call reply)) call one → one ≡ reply
      ended_is one ended = elim (Contains-push_cases marks (k.End call reply) (k.End call one) ended) as (λ _. one ≡ reply) [ inl old ↦ absurd (not_ended one old) | inr e ↦ (end_in call one e).1 ]

  -- another call, whose ticket isn't given
  pub other_stays : (other : Call) (state : CallState) → is_same_call call other ≡ false → ((stamp : Stamp) (key : KeyId) (reader : Call) (value : List ℕ) → Contains marks (k.Ticket other stamp) → ReadsHere marks (k.End call reply) key reader stamp value → ⊥)
      → IsCounted marks other state → IsCounted (more marks (k.End call reply)) other state
  other_stays other state apart not_given c = counted_stays marks (k.End call reply) kept last drawn h keeps other state (record { begins = no_begin other; ends = λ one e. apart_call other apart (end_in other one e).0; counts = counts_not }) c
    where
      counts_not : (stamp : Stamp) → CountsHere marks (k.End call reply) other stamp → ⊥
      counts_not stamp (inl e) = apart_call other apart (end_in other (r.Stored stamp) e).0
      counts_not stamp (inr (inl it)) = no_ticket other stamp it.0
      counts_not stamp (inr (inr it)) = let here = it.1 in not_given stamp here.1 here.0 here.2 it.0 here.3

  -- the state of the call that ends
  pub work_here : (state : CallState) → kept call ≡ Some state → (other : Call) (one : Reply) → k.End call reply ≡ k.End other one → (key : KeyId) (work : Work) → Contains marks (k.Begin other key work) → (state.key ≡ key) × (state.work ≡ work)
  work_here state at other one e key work begun = one_state marks kept last drawn h call state at key work (subst (λ (c : Call). Contains marks (k.Begin c key work)) (sym (end_in other one e).0) begun)

  -- an end that tells no stamp
  pub counted_after_other : (top : ℕ → Stamp) (state : CallState) (ending : Ending) (new : Call → Option CallState) → kept call ≡ Some state → TellsNoStamp (kept call) reply → (is_dead reply ≡ true → state.counted ≡ None)
      → ending ≡ cond (is_dead reply) Dead Ended → Changes call (ending_so ending) kept new → Counted marks kept top → Counted (more marks (k.End call reply)) new top
  counted_after_other top state ending new at tells alive ending_is is c = counted_with_none marks (k.End call reply) kept last drawn h keeps top new top (record { reads = reads; answers = answers }) (λ key. refl) each c
    where
      reads : (key : KeyId) (other : Call) (stamp : Stamp) (value : List ℕ) → ReadsHere marks (k.End call reply) key other stamp value → ⊥
      reads key other stamp value here =
          let does = work_here state at other (r.Value stamp value) here.is key w.Read here.begun in
          (tells state at).0 stamp value (sym (end_in other (r.Value stamp value) here.is).1) does.1

      stores : (key : KeyId) (other : Call) (stamp : Stamp) (value : List ℕ) → StoresHere marks (k.End call reply) key other stamp value → ⊥
      stores key other stamp value here =
          let does = work_here state at other (r.Stored stamp) here.is key (w.Write value) here.begun in
          (tells state at).1 stamp value (sym (end_in other (r.Stored stamp) here.is).1) does.1

      answers : (key : KeyId) (other : Call) (stamp : Stamp) → AnswersHere marks (k.End call reply) key other stamp → ⊥
      answers key other stamp (inl it) = reads key other stamp it.0 it.1
      answers key other stamp (inr it) = stores key other stamp it.0 it.1

      old_count : (value : List ℕ) (stamp : Stamp) → state.work ≡ w.Write value → CountsWith (more marks (k.End call reply)) call stamp → CountsWith marks call stamp
      old_count value stamp does with_ = elim (counts_cases marks (k.End call reply) kept last drawn h keeps call stamp with_) as (λ _. CountsWith marks call stamp) [
        | inl old ↦ old
        | inr here ↦ absurd (elim here as (λ _. ⊥) [
          | inl e ↦ (tells state at).1 stamp value (sym (end_in call (r.Stored stamp) e).1) does
          | inr it ↦ elim it as (λ _. ⊥) [ inl it ↦ no_ticket call stamp it.0 | inr it ↦ let given = it.1 in reads given.1 given.0 stamp given.2 given.3 ]
        ])
      ]

      was : IsCounted marks call state
      was = c.each call state at

      own : IsCounted (more marks (k.End call reply)) call (ending_so ending state)
      own = own_ends state state.counted ending (record {
        counted = λ value stamp does with_. was.counted value stamp does (old_count value stamp does with_);
        counts = λ value stamp does one. let it = was.counts value stamp does one in (counts_still marks (k.End call reply) call stamp it.0, it.1);
        reads = λ stamp value does gives. absurd ((tells state at).0 stamp value gives does);
        read_counted = λ stamp value does gives. absurd ((tells state at).0 stamp value gives does);
        read_counts = λ stamp does one. let it = was.read_counts stamp does one in (it.0, still marks (k.End call reply) (k.End call (r.Value stamp it.0)) it.1);
        others = was.others;
        dead = λ value does dead_. alive dead_;
        ending_is = ending_is;
      }) was

      each : (other : Call) (now : CallState) → new other ≡ Some now → IsCounted (more marks (k.End call reply)) other now
      each other now found = elim (changed call (ending_so ending) kept new is other now found) as (λ _. IsCounted (more marks (k.End call reply)) other now) [
        | inl same ↦ other_stays other now same.0 (λ stamp key reader value ticket here. reads key reader stamp value here) (c.each other now same.1)
        | inr it ↦
            let one = same_Some it.1.0 state (sym it.1.1 ∙ at) in
            subst (λ (d : Call). IsCounted (more marks (k.End call reply)) d now) it.0 (subst (λ (s : CallState). IsCounted (more marks (k.End call reply)) call s) (sym (it.1.2 ∙ ap (ending_so ending) one)) own)
      ]

  -- the line answers a read or a write of this key with this stamp, and nothing else
  pub record AnswersOne (key : KeyId) (stamp : Stamp) : Type 0 where
    pub here : Answered (more marks (k.End call reply)) key call stamp
    pub only : (at : KeyId) (other : Call) (one : Stamp) → AnswersHere marks (k.End call reply) at other one → (at ≡ key) × (one ≡ stamp)
    pub gives : (at : KeyId) (other : Call) (one : Stamp) (value : List ℕ) → ReadsHere marks (k.End call reply) at other one value → GivesWritten marks at (r.Value one value)

  pub counted_with_one : (key : KeyId) (stamp : Stamp) (top after : ℕ → Stamp) (new : Call → Option CallState) → AnswersOne key stamp → ((other : ℕ) → after other ≡ cond (key.0 == other) (greater (top key.0) stamp) (top other))
      → ((other : Call) (state : CallState) → new other ≡ Some state → IsCounted (more marks (k.End call reply)) other state) → Counted marks kept top → Counted (more marks (k.End call reply)) new after
  counted_with_one key stamp top after new one raised each c = record {
    each = each;
    tops = λ at other answered_ answered.
        elim (answered_cases marks (k.End call reply) kept last drawn h keeps at other answered_ answered) as (λ _. IsAtMost answered_ (after at.0)) [
          | inl old ↦ IsAtMost-trans answered_ (top at.0) (after at.0) (c.tops at other answered_ old) (rises at)
          | inr here ↦
              let it = one.only at other answered_ here in
              subst (λ (s : Stamp). IsAtMost s (after at.0)) (sym it.1) (subst (λ (x : KeyId). IsAtMost stamp (after x.0)) (sym it.0) (subst (λ (s : Stamp). IsAtMost stamp s) (sym here_top) (greater_right (top key.0) stamp)))
        ];
    top_is = top_is;
    given = λ other at answered_ value begun ended.
        elim (read_cases marks (k.End call reply) kept last drawn h keeps other at answered_ value begun ended) as (λ _. GivesWritten (more marks (k.End call reply)) at (r.Value answered_ value)) [
          | inl old ↦ written_still marks (k.End call reply) at answered_ value (c.given other at answered_ value old.0 old.1)
          | inr here ↦ written_still marks (k.End call reply) at answered_ value (one.gives at other answered_ value here)
        ];
  }
    where
      at_test : (at : ℕ) (b : Bool) → (key.0 == at) ≡ b → after at ≡ cond b (greater (top key.0) stamp) (top at)
      at_test at b e = subst (λ (b : Bool). after at ≡ cond b (greater (top key.0) stamp) (top at)) e (raised at)

      here_top : after key.0 ≡ greater (top key.0) stamp
      here_top = at_test key.0 true (eq-eqb key.0 key.0 refl)

      rises : (at : KeyId) → IsAtMost (top at.0) (after at.0)
      rises at = by_test (key.0 == at.0) refl
        where
          by_test : (b : Bool) → (key.0 == at.0) ≡ b → IsAtMost (top at.0) (after at.0)
          by_test true e = subst (λ (n : ℕ). IsAtMost (top n) (after n)) (eqb-true key.0 at.0 e) (subst (λ (s : Stamp). IsAtMost (top key.0) s) (sym here_top) (greater_left (top key.0) stamp))
          by_test false e = IsAtMost-same (top at.0) (after at.0) (sym (at_test at.0 false e))

      old_top : (at : KeyId) → (top at.0 ≡ stamp_zero) ⊎ ((other : Call) × Answered (more marks (k.End call reply)) at other (top at.0))
      old_top at = elim (c.top_is at) as (λ _. (top at.0 ≡ stamp_zero) ⊎ ((other : Call) × Answered (more marks (k.End call reply)) at other (top at.0))) [
        | inl none ↦ inl none
        | inr it ↦ inr (it.0, answered_still marks (k.End call reply) at it.0 (top at.0) it.1)
      ]

      key_top : (key_top_ : Stamp) → (key_top_ ≡ top key.0) ⊎ (key_top_ ≡ stamp) → (key_top_ ≡ stamp_zero) ⊎ ((other : Call) × Answered (more marks (k.End call reply)) key other key_top_)
      key_top s (inl e) = subst (λ (x : Stamp). (x ≡ stamp_zero) ⊎ ((other : Call) × Answered (more marks (k.End call reply)) key other x)) (sym e) (old_top key)
      key_top s (inr e) = subst (λ (x : Stamp). (x ≡ stamp_zero) ⊎ ((other : Call) × Answered (more marks (k.End call reply)) key other x)) (sym e) (inr (call, one.here))

      top_is : (at : KeyId) → (after at.0 ≡ stamp_zero) ⊎ ((other : Call) × Answered (more marks (k.End call reply)) at other (after at.0))
      top_is at = by_test (key.0 == at.0) refl
        where
          by_test : (b : Bool) → (key.0 == at.0) ≡ b → (after at.0 ≡ stamp_zero) ⊎ ((other : Call) × Answered (more marks (k.End call reply)) at other (after at.0))
          by_test true e =
              subst (λ (x : KeyId). (after x.0 ≡ stamp_zero) ⊎ ((other : Call) × Answered (more marks (k.End call reply)) x other (after x.0))) (same_key key at (eqb-true key.0 at.0 e))
              (subst (λ (s : Stamp). (s ≡ stamp_zero) ⊎ ((other : Call) × Answered (more marks (k.End call reply)) key other s)) (sym here_top) (key_top (greater (top key.0) stamp) (greater_is (top key.0) stamp)))
          by_test false e = subst (λ (s : Stamp). (s ≡ stamp_zero) ⊎ ((other : Call) × Answered (more marks (k.End call reply)) at other s)) (sym (at_test at.0 false e)) (old_top at)
