-- A read or a write is answered: what is kept of calls that count goes on to be what the lines tell.
use Rattle.std.proofs.Common.{◌≡◌, ◌≢◌, inl, inr, ℕ, Bool, true, false, cond, ◌==◌, List, Option, Some, refl, sym, ap, subst, ◌∙◌, arith}
use Rattle.std.specs.Prelude.{Contains}
use Rattle.std.proofs.lemmas.Option.{same_Some}
use Rattle.std.proofs.lemmas.List.Elements.{Contains-push, Contains-push_cases}
use Rattle.span_base.specs.declared.ids.Call.{Call}
use Rattle.span_base.specs.declared.ids.KeyId.{KeyId}
use Rattle.ticket_rules.specs.declared.stamp.Stamp.{Stamp}
use Rattle.ticket_rules.specs.Stamp.{greater, IsAbove, IsAtMost}
use Rattle.wire_msg.specs.declared.outputs.Reply.{Reply}
use Rattle.wire_msg.specs.declared.outputs.Reply.TheVariants as r
use Rattle.run_marks.specs.declared.mark.Work.{Work}
use Rattle.run_marks.specs.declared.mark.Work.TheVariants as w
use Rattle.run_marks.specs.declared.mark.Mark.{Mark}
use Rattle.run_marks.specs.declared.mark.Mark.TheVariants as k
use Rattle.run_marks.specs.History.{is_same_call, is_register_work, EndsWith, IsGiven}
use Rattle.register_order.specs.Form.{KeepsCall}
use Rattle.register_order.specs.Clauses.{GivesWritten, WasDrawn}
use Rattle.register_order.proofs.Tests.{call_is_itself, one_call}
use Rattle.history_audit.specs.declared.calls.CallState.{CallState}
use Rattle.history_audit.specs.declared.calls.Ending.TheVariants.{Ended, Dead}
use Rattle.history_audit.specs.Calls.{counting, ending_so}
use Rattle.history_audit.specs.Judged.{CountsAs}
use Rattle.history_audit.specs.Told.{Tells}
use Rattle.history_audit.specs.Counted.{Answered, CountsWith, Counted, IsCounted}
use Rattle.history_audit.specs.Judging.{drawer_of, EndsAsRead, IsWriter, MayGive, CountsGiven}
use Rattle.history_audit.proofs.Telling.{more, still}
use Rattle.history_audit.proofs.Changing.{Changes, changed}
use Rattle.history_audit.proofs.Events.{counts_cases, floor_still, AnswersHere, ReadsHere, StoresHere}
use Rattle.history_audit.proofs.Counting.{floors_on}
use Rattle.history_audit.proofs.CountingEnds.{apart_call, counted_with_one, end_in, may_count_above, may_count_one, other_stays, own_ends, work_here}

-- a write of the key is answered with this stamp
module _ (marks : List Mark) (call : Call) (stamp : Stamp) (kept : Call → Option CallState) (last : ℕ → ℕ) (drawn : Stamp → Bool) (h : Tells marks kept last drawn) (keeps : KeepsCall marks (k.End call (r.Stored stamp))) where
  no_read : (key : KeyId) (other : Call) (one : Stamp) (value : List ℕ) → ReadsHere marks (k.End call (r.Stored stamp)) key other one value → ⊥
  no_read key other one value here = apart other one here.is
    where
      apart : (d : Call) (s : Stamp) → k.End call (r.Stored stamp) ≡ k.End d (r.Value s value) → ⊥
      apart d s e = cc

  stored_in : (other : Call) (one : Stamp) → k.End call (r.Stored stamp) ≡ k.End other (r.Stored one) → one ≡ stamp
  stored_in other one e = cc

  pub counted_after_write : (state : CallState) (value : List ℕ) (top after : ℕ → Stamp) (mid new : Call → Option CallState) → kept call ≡ Some state → state.work ≡ w.Write value → CountsAs state.counted state.floor stamp
      → Changes call (counting stamp) kept mid → Changes call (ending_so Ended) mid new → ((other : ℕ) → after other ≡ cond (state.key.0 == other) (greater (top state.key.0) stamp) (top other)) → Counted marks kept top
      → Counted (more marks (k.End call (r.Stored stamp))) new after
  counted_after_write state value top after mid new at work_is may counts_is ends_is raised c =
      counted_with_one marks call (r.Stored stamp) kept last drawn h keeps state.key stamp top after new (record { here = here; only = only; gives = λ key other one given it. absurd (no_read key other one given it) }) raised each c
    where
      mark : Mark
      mark = k.End call (r.Stored stamp)

      was : IsCounted marks call state
      was = c.each call state at

      begun : Contains marks (k.Begin call state.key (w.Write value))
      begun = subst (λ (x : Work). Contains marks (k.Begin call state.key x)) work_is (h.told call state at).begun

      here : Answered (more marks mark) state.key call stamp
      here = inr (value, still marks mark (k.Begin call state.key (w.Write value)) begun, Contains-push marks mark)

      only : (key : KeyId) (other : Call) (one : Stamp) → AnswersHere marks mark key other one → (key ≡ state.key) × (one ≡ stamp)
      only key other one (inl it) = absurd (no_read key other one it.0 it.1)
      only key other one (inr it) =
          let does = work_here marks call (r.Stored stamp) kept last drawn h keeps state at other (r.Stored one) it.1.is key (w.Write it.0) it.1.begun in
          (sym does.0, stored_in other one it.1.is)

      no_ticket : (other : Call) (one : Stamp) → mark ≡ k.Ticket other one → ⊥
      no_ticket other one e = cc

      counted : (given : List ℕ) (one : Stamp) → state.work ≡ w.Write given → CountsWith (more marks mark) call one → Some stamp ≡ Some one
      counted given one does with_ =
          ap (λ (s : Stamp). Some s) (sym (elim (counts_cases marks mark kept last drawn h keeps call one with_) as (λ _. one ≡ stamp) [
            | inl old ↦ may_count_one marks call state given stamp one was does may old
            | inr it ↦ elim it as (λ _. one ≡ stamp) [
              | inl e ↦ stored_in call one e
              | inr it ↦ absurd (elim it as (λ _. ⊥) [ inl it ↦ no_ticket call one it.0 | inr it ↦ let gave = it.1 in no_read gave.1 gave.0 one gave.2 gave.3 ])
            ]
          ]))

      own : IsCounted (more marks mark) call (ending_so Ended (counting stamp state))
      own = own_ends marks call (r.Stored stamp) kept last drawn h keeps state (Some stamp) Ended (record {
        counted = counted;
        counts = λ given one does is.
            let same = same_Some stamp one is in
            (inl (subst (λ (s : Stamp). EndsWith (more marks mark) call (r.Stored s)) same (Contains-push marks mark)), subst (λ (s : Stamp). IsAbove s state.floor) same (may_count_above marks call state given stamp was does may));
        reads = λ one given does gives. absurd (let e = sym work_is ∙ does in cc (e));
        read_counted = λ one given does gives. absurd (let e = sym work_is ∙ does in cc (e));
        read_counts = λ one does same. absurd (let e = sym work_is ∙ does in cc (e));
        others = λ other. absurd (let e = ap is_register_work work_is in cc (e, other));
        dead = λ given does dead_. absurd (cc dead_);
        ending_is = refl;
      }) was

      each : (other : Call) (now : CallState) → new other ≡ Some now → IsCounted (more marks mark) other now
      each other now found = elim (changed call (ending_so Ended) mid new ends_is other now found) as (λ _. IsCounted (more marks mark) other now) [
        | inl same ↦ elim (changed call (counting stamp) kept mid counts_is other now same.1) as (λ _. IsCounted (more marks mark) other now) [
          | inl old ↦ other_stays marks call (r.Stored stamp) kept last drawn h keeps other now same.0 (λ one key reader given ticket it. no_read key reader one given it) (c.each other now old.1)
          | inr it ↦ absurd (apart_call marks call (r.Stored stamp) kept last drawn h keeps other same.0 it.0)
        ]
        | inr it ↦ elim (changed call (counting stamp) kept mid counts_is call it.1.0 it.1.1) as (λ _. IsCounted (more marks mark) other now) [
          | inl same ↦ absurd (apart_call marks call (r.Stored stamp) kept last drawn h keeps call same.0 refl)
          | inr first ↦
              let one = same_Some first.1.0 state (sym first.1.1 ∙ at) in
              subst (λ (d : Call). IsCounted (more marks mark) d now) it.0
              (subst (λ (s : CallState). IsCounted (more marks mark) call s) (sym (it.1.2 ∙ ap (ending_so Ended) (first.1.2 ∙ ap (counting stamp) one))) own)
        ]
      ]

-- a read of the key is answered with this stamp and this value
module _ (marks : List Mark) (call : Call) (key : KeyId) (floor stamp : Stamp) (value : List ℕ) (kept : Call → Option CallState) (last : ℕ → ℕ) (drawn : Stamp → Bool) (top : ℕ → Stamp) (h : Tells marks kept last drawn)
    (keeps : KeepsCall marks (k.End call (r.Value stamp value))) (c : Counted marks kept top) (is : EndsAsRead (kept call) key floor) (low : IsAtMost floor stamp) where
  no_store : (at : KeyId) (other : Call) (one : Stamp) (given : List ℕ) → StoresHere marks (k.End call (r.Value stamp value)) at other one given → ⊥
  no_store at other one given here = apart other one here.is
    where
      apart : (d : Call) (s : Stamp) → k.End call (r.Value stamp value) ≡ k.End d (r.Stored s) → ⊥
      apart d s e = cc

  value_in : (other : Call) (one : Stamp) (given : List ℕ) → k.End call (r.Value stamp value) ≡ k.End other (r.Value one given) → (one ≡ stamp) × (given ≡ value)
  value_in other one given e = (cc, cc)

  begun : Contains marks (k.Begin call key w.Read)
  begun = subst (λ (x : Work). Contains marks (k.Begin call key x)) is.kept.work_is (subst (λ (x : KeyId). Contains marks (k.Begin call x is.kept.state.work)) is.kept.key_is (h.told call is.kept.state is.kept.found).begun)

  -- a read writes nothing
  no_write : (given : List ℕ) → is.kept.state.work ≡ w.Write given → ⊥
  no_write given does = let e = sym is.kept.work_is ∙ does in cc e

  own_read : IsCounted (more marks (k.End call (r.Value stamp value))) call (ending_so Ended (counting stamp is.kept.state))
  own_read = own_ends marks call (r.Value stamp value) kept last drawn h keeps is.kept.state (Some stamp) Ended (record {
    counted = λ given one does with_. absurd (no_write given does);
    counts = λ given one does same. absurd (no_write given does);
    reads = λ one given does gives. subst (λ (s : Stamp). IsAtMost is.kept.state.floor s) (stamp_in one given gives) (subst (λ (f : Stamp). IsAtMost f stamp) (sym is.floor_is) low);
    read_counted = λ one given does gives. ap (λ (s : Stamp). Some s) (stamp_in one given gives);
    read_counts = λ one does same.
        (value, subst (λ (s : Stamp). EndsWith (more marks (k.End call (r.Value stamp value))) call (r.Value s value)) (same_Some stamp one same) (Contains-push marks (k.End call (r.Value stamp value))));
    others = λ other. absurd (let e = ap is_register_work is.kept.work_is in cc (e, other));
    dead = λ given does dead_. absurd (no_write given does);
    ending_is = refl;
  }) (c.each call is.kept.state is.kept.found)
    where
      stamp_in : (one : Stamp) (given : List ℕ) → r.Value stamp value ≡ r.Value one given → stamp ≡ one
      stamp_in one given e = cc

  -- a call that didn't draw the stamp
  stays : (other : Call) (state : CallState) → is_same_call call other ≡ false → (Contains marks (k.Ticket other stamp) → ⊥) → kept other ≡ Some state → IsCounted (more marks (k.End call (r.Value stamp value))) other state
  stays other state apart not_drawn at =
      other_stays marks call (r.Value stamp value) kept last drawn h keeps other state apart
      (λ one at_ reader given ticket here. not_drawn (subst (λ (s : Stamp). Contains marks (k.Ticket other s)) (value_in reader one given here.is).0 ticket)) (c.each other state at)

  -- the write that drew it counts with it
  writer_counts : (writer : CallState) → IsWriter marks kept key stamp value writer → writer.ending ≢ Dead → CountsAs writer.counted writer.floor stamp → IsCounted (more marks (k.End call (r.Value stamp value))) (drawer_of stamp) (counting stamp writer)
  writer_counts writer by alive may = record {
    counted = counted;
    counts = λ given one does same.
        let e = same_Some stamp one same in
        subst (λ (s : Stamp). CountsWith (more marks mark) (drawer_of stamp) s × IsAbove s writer.floor) e (inr (still marks mark (k.Ticket (drawer_of stamp) stamp) by.drawn, given_now), may_count_above marks (drawer_of stamp) writer given stamp was does may);
    writes = λ one open_ same. (value, by.work_is);
    reads = λ one given does ended. absurd (let e = sym by.work_is ∙ does in cc e);
    read_counted = λ one given does ended. absurd (let e = sym by.work_is ∙ does in cc e);
    read_counts = λ one does same. absurd (let e = sym by.work_is ∙ does in cc e);
    others = λ other. absurd (let e = ap is_register_work by.work_is in cc (e, other));
    dead = λ given reply does ended dead_. absurd (let no_ = was.lives alive reply (end_there reply ended) in cc (no_, dead_));
    dies = λ e. absurd (alive e);
    lives = λ alive_ reply ended. was.lives alive reply (end_there reply ended);
    floors = floors_on marks mark kept last drawn h keeps (drawer_of stamp) writer (λ at does e. no_begin (drawer_of stamp) at does e) was;
    floor_is = floor_still marks mark writer.key (drawer_of stamp) writer.floor was.floor_is;
  }
    where
      mark : Mark
      mark = k.End call (r.Value stamp value)

      was : IsCounted marks (drawer_of stamp) writer
      was = c.each (drawer_of stamp) writer by.found

      no_begin : (other : Call) (at : KeyId) (does : Work) → mark ≡ k.Begin other at does → ⊥
      no_begin other at does e = cc

      no_ticket : (other : Call) (one : Stamp) → mark ≡ k.Ticket other one → ⊥
      no_ticket other one e = cc

      no_stored : (other : Call) (one : Stamp) → mark ≡ k.End other (r.Stored one) → ⊥
      no_stored other one e = cc

      -- the reader isn't the writer
      not_reader : call ≡ drawer_of stamp → ⊥
      not_reader same =
          let found = subst (λ (d : Call). kept d ≡ Some is.kept.state) same is.kept.found in
          let one = same_Some is.kept.state writer (sym found ∙ by.found) in
          no_write value (ap (λ (s : CallState). s.work) one ∙ by.work_is)

      end_there : (reply : Reply) → EndsWith (more marks mark) (drawer_of stamp) reply → EndsWith marks (drawer_of stamp) reply
      end_there reply ended = elim (Contains-push_cases marks mark (k.End (drawer_of stamp) reply) ended) as (λ _. EndsWith marks (drawer_of stamp) reply) [
        | inl old ↦ old
        | inr e ↦ absurd (not_reader (end_in marks call (r.Value stamp value) kept last drawn h keeps (drawer_of stamp) reply e).0)
      ]

      given_now : IsGiven (more marks mark) stamp
      given_now = record { reader = call; value = value; reads = record { read = (key, still marks mark (k.Begin call key w.Read) begun); ended = Contains-push marks mark } }

      counted : (given : List ℕ) (one : Stamp) → writer.work ≡ w.Write given → CountsWith (more marks mark) (drawer_of stamp) one → Some stamp ≡ Some one
      counted given one does with_ =
          ap (λ (s : Stamp). Some s) (sym (elim (counts_cases marks mark kept last drawn h keeps (drawer_of stamp) one with_) as (λ _. one ≡ stamp) [
            | inl old ↦ may_count_one marks (drawer_of stamp) writer given stamp one was does may old
            | inr it ↦ elim it as (λ _. one ≡ stamp) [
              | inl e ↦ absurd (no_stored (drawer_of stamp) one e)
              | inr it ↦ elim it as (λ _. one ≡ stamp) [ inl it ↦ absurd (no_ticket (drawer_of stamp) one it.0) | inr it ↦ let gave = it.1 in (value_in gave.0 one gave.2 gave.3.is).0 ]
            ]
          ]))

  -- whoever drew the stamp is the call that it tells
  drew : (other : Call) → Contains marks (k.Ticket other stamp) → drawer_of stamp ≡ other
  drew other ticket = let own = h.own other stamp ticket in one_call stamp.proxy other.proxy stamp.seq other.seq own.0 own.1

  pub counted_after_read : (given mid new : Call → Option CallState) (after : ℕ → Stamp) → MayGive marks kept key floor stamp value → CountsGiven stamp kept given → Changes call (counting stamp) given mid → Changes call (ending_so Ended) mid new
      → ((other : ℕ) → after other ≡ cond (key.0 == other) (greater (top key.0) stamp) (top other)) → Counted (more marks (k.End call (r.Value stamp value))) new after
  counted_after_read given mid new after may given_is counts_is ends_is raised =
      counted_with_one marks call (r.Value stamp value) kept last drawn h keeps key stamp top after new (record { here = inl (value, still marks mark (k.Begin call key w.Read) begun, Contains-push marks mark); only = only; gives = gives }) raised each c
    where
      mark : Mark
      mark = k.End call (r.Value stamp value)

      written : GivesWritten marks key (r.Value stamp value)
      written = elim may as (λ _. GivesWritten marks key (r.Value stamp value)) [
        | inl none ↦ inl (none.0, none.1)
        | inr it ↦ inr (it.0, writes it.1.0 it.1.1)
      ]
        where
          writes : (writer : CallState) → IsWriter marks kept key stamp value writer → WasDrawn marks key stamp value
          writes writer by = record {
            writer = drawer_of stamp;
            begun = subst (λ (x : Work). Contains marks (k.Begin (drawer_of stamp) key x)) by.work_is (subst (λ (x : KeyId). Contains marks (k.Begin (drawer_of stamp) x writer.work)) by.key_is (h.told (drawer_of stamp) writer by.found).begun);
            ticket = by.drawn;
          }

      key_here : (at : KeyId) (other : Call) (one : Stamp) (read : List ℕ) → ReadsHere marks mark at other one read → key ≡ at
      key_here at other one read here =
          let does = work_here marks call (r.Value stamp value) kept last drawn h keeps is.kept.state is.kept.found other (r.Value one read) here.is at w.Read here.begun in
          sym is.kept.key_is ∙ does.0

      only : (at : KeyId) (other : Call) (one : Stamp) → AnswersHere marks mark at other one → (at ≡ key) × (one ≡ stamp)
      only at other one (inl it) = (sym (key_here at other one it.0 it.1), (value_in other one it.0 it.1.is).0)
      only at other one (inr it) = absurd (no_store at other one it.0 it.1)

      gives : (at : KeyId) (other : Call) (one : Stamp) (read : List ℕ) → ReadsHere marks mark at other one read → GivesWritten marks at (r.Value one read)
      gives at other one read here =
          let same = value_in other one read here.is in
          subst (λ (s : Stamp). GivesWritten marks at (r.Value s read)) (sym same.0)
          (subst (λ (v : List ℕ). GivesWritten marks at (r.Value stamp v)) (sym same.1) (subst (λ (x : KeyId). GivesWritten marks x (r.Value stamp value)) (key_here at other one read here) written))

      -- of the calls beside this one, what was given changes the write alone
      given_other : (other : Call) (now : CallState) → is_same_call call other ≡ false → given other ≡ Some now → IsCounted (more marks mark) other now
      given_other other now apart found = elim may as (λ _. IsCounted (more marks mark) other now) [
        | inl none ↦ stays other now apart (λ ticket. let own = h.own other stamp ticket in absurd (let n = own.2 in let e = ap (λ (s : Stamp). s.number) none.0 in omega (arith, n, e))) (sym (given_is.none none.0 other) ∙ found)
        | inr it ↦ elim (changed (drawer_of stamp) (counting stamp) kept given (given_is.one it.0) other now found) as (λ _. IsCounted (more marks mark) other now) [
          | inl same ↦ stays other now apart (λ ticket. apart_drawer other same.0 (drew other ticket)) same.1
          | inr that ↦
              let one = same_Some that.1.0 it.1.0 (sym that.1.1 ∙ it.1.1.found) in
              subst (λ (d : Call). IsCounted (more marks mark) d now) that.0
              (subst (λ (s : CallState). IsCounted (more marks mark) (drawer_of stamp) s) (sym (that.1.2 ∙ ap (counting stamp) one)) (writer_counts it.1.0 it.1.1 it.1.2 it.1.4))
        ]
      ]
        where
          apart_drawer : (d : Call) → is_same_call (drawer_of stamp) d ≡ false → drawer_of stamp ≡ d → ⊥
          apart_drawer d apart_ same = let e = subst (λ (x : Call). is_same_call (drawer_of stamp) x ≡ true) same (call_is_itself (drawer_of stamp)) in cc (e, apart_)

      -- and this one stays
      given_call : (now : CallState) → given call ≡ Some now → now ≡ is.kept.state
      given_call now found = elim may as (λ _. now ≡ is.kept.state) [
        | inl none ↦ same_Some now is.kept.state (sym found ∙ given_is.none none.0 call ∙ is.kept.found)
        | inr it ↦ elim (changed (drawer_of stamp) (counting stamp) kept given (given_is.one it.0) call now found) as (λ _. now ≡ is.kept.state) [
          | inl same ↦ same_Some now is.kept.state (sym same.1 ∙ is.kept.found)
          | inr that ↦
              let at = subst (λ (d : Call). kept d ≡ Some it.1.0) that.0 it.1.1.found in
              let one = same_Some it.1.0 is.kept.state (sym at ∙ is.kept.found) in
              absurd (no_write value (ap (λ (s : CallState). s.work) (sym one) ∙ it.1.1.work_is))
        ]
      ]

      each : (other : Call) (now : CallState) → new other ≡ Some now → IsCounted (more marks mark) other now
      each other now found = elim (changed call (ending_so Ended) mid new ends_is other now found) as (λ _. IsCounted (more marks mark) other now) [
        | inl same ↦ elim (changed call (counting stamp) given mid counts_is other now same.1) as (λ _. IsCounted (more marks mark) other now) [
          | inl old ↦ given_other other now same.0 old.1
          | inr it ↦ absurd (apart_call marks call (r.Value stamp value) kept last drawn h keeps other same.0 it.0)
        ]
        | inr it ↦ elim (changed call (counting stamp) given mid counts_is call it.1.0 it.1.1) as (λ _. IsCounted (more marks mark) other now) [
          | inl same ↦ absurd (apart_call marks call (r.Value stamp value) kept last drawn h keeps call same.0 refl)
          | inr first ↦
              let one = given_call first.1.0 first.1.1 in
              subst (λ (d : Call). IsCounted (more marks mark) d now) it.0
              (subst (λ (s : CallState). IsCounted (more marks mark) call s) (sym (it.1.2 ∙ ap (ending_so Ended) (first.1.2 ∙ ap (counting stamp) one))) own_read)
        ]
      ]
