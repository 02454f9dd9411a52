-- Ends that break one of the last two clauses.
use Rattle.std.proofs.Common.{◌≡◌, inl, inr, ℕ, ◌≤◌, Bool, true, false, cond, List, ◌∷◌, ◌++◌, Option, Some, None, refl, sym, ap, subst, ◌∙◌, arith}
use Rattle.std.specs.Prelude.{Contains}
use Rattle.std.specs.List.{filter}
use Rattle.std.proofs.lemmas.Grind.{common_steps}
use Rattle.std.proofs.lemmas.List.Elements.{Contains-push, Contains-push_cases, filter-append}
use Rattle.span_base.specs.declared.ids.Call.{Call}
use Rattle.span_base.specs.declared.ids.KeyId.{KeyId}
use Rattle.ticket_rules.specs.declared.stamp.Stamp.{Stamp}
use Rattle.ticket_rules.specs.Stamp.{stamp_zero, IsAbove}
use Rattle.wire_msg.specs.declared.outputs.Reply.{Reply}
use Rattle.wire_msg.specs.declared.outputs.Reply.TheVariants as r
use Rattle.run_marks.specs.declared.mark.Work.{Work}
use Rattle.run_marks.specs.declared.mark.Work.TheVariants as w
use Rattle.run_marks.specs.declared.mark.Mark.{Mark}
use Rattle.run_marks.specs.declared.mark.Mark.TheVariants as k
use Rattle.run_marks.specs.History.{history_of, is_dead, is_of, EndsBefore, EndsWith, IsGiven, Reads, Writes}
use Rattle.run_marks.specs.Register.{TookEffect}
use Rattle.register_order.specs.Form.{IsOpen, KeepsCall}
use Rattle.register_order.proofs.Filtered.{into_filter}
use Rattle.register_order.proofs.OfKey.{in_history, in_log, is_kept, register_call_is_of}
use Rattle.register_order.proofs.Tests.{one_call}
use Rattle.register_order.proofs.Tickets.{numbered_above_zero}
use Rattle.history_audit.specs.declared.calls.CallState.{CallState}
use Rattle.history_audit.specs.declared.calls.Ending.{Ending}
use Rattle.history_audit.specs.declared.calls.Ending.TheVariants.{Open, Ended, Dead}
use Rattle.history_audit.specs.Judged.{CountsAs}
use Rattle.history_audit.specs.Told.{Tells}
use Rattle.history_audit.specs.Counted.{Answered, CountsWith, Counted}
use Rattle.history_audit.specs.Judging.{drawer_of, EndsAsRead, GivesDead, GivesOutOfOrder, IsWriter, KeepsDead, KeepsOrder}
use Rattle.history_audit.proofs.Telling.{more, still}
use Rattle.history_audit.proofs.Tickets.{one_state}
use Rattle.history_audit.proofs.Events.{answered_still, ends_before_still, given_cases, GivesHere}
use Rattle.history_audit.proofs.FromCounted.{given_in_log}

-- what the lines tell of a key's calls, its history tells
reads_in_history : (marks : List Mark) (key : KeyId) (call : Call) (stamp : Stamp) (value : List ℕ) → Contains marks (k.Begin call key w.Read) → EndsWith marks call (r.Value stamp value) → Reads (history_of key.0 marks) call stamp value
reads_in_history marks key call stamp value begun ended =
    let is = register_call_is_of key.0 marks call key w.Read refl refl begun in
    record { read = (key, in_history key.0 marks (k.Begin call key w.Read) is begun); ended = in_history key.0 marks (k.End call (r.Value stamp value)) is ended }

stored_in_history : (marks : List Mark) (key : KeyId) (call : Call) (stamp : Stamp) (value : List ℕ) → Contains marks (k.Begin call key (w.Write value)) → EndsWith marks call (r.Stored stamp) → Writes (history_of key.0 marks) call stamp value
stored_in_history marks key call stamp value begun ended =
    let is = register_call_is_of key.0 marks call key (w.Write value) refl refl begun in
    record { write = (key, in_history key.0 marks (k.Begin call key (w.Write value)) is begun); counts = inl (in_history key.0 marks (k.End call (r.Stored stamp)) is ended) }

given_in_history : (marks : List Mark) (key : KeyId) (stamp : Stamp) (reader : Call) (read : List ℕ) → Contains marks (k.Begin reader key w.Read) → EndsWith marks reader (r.Value stamp read) → IsGiven (history_of key.0 marks) stamp
given_in_history marks key stamp reader read begun ended = record { reader = reader; value = read; reads = reads_in_history marks key reader stamp read begun ended }

drawn_in_history : (marks : List Mark) (key : KeyId) (call : Call) (stamp : Stamp) (value : List ℕ) → Contains marks (k.Begin call key (w.Write value)) → Contains marks (k.Ticket call stamp) → IsGiven (history_of key.0 marks) stamp
    → Writes (history_of key.0 marks) call stamp value
drawn_in_history marks key call stamp value begun ticket given =
    let is = register_call_is_of key.0 marks call key (w.Write value) refl refl begun in
    record { write = (key, in_history key.0 marks (k.Begin call key (w.Write value)) is begun); counts = inr (in_history key.0 marks (k.Ticket call stamp) is ticket, given) }

-- a call that was answered took effect in its key's history
record Took (marks : List Mark) (key : KeyId) (call : Call) (stamp : Stamp) : Type 0 where
  wrote : Bool
  value : List ℕ
  took : TookEffect (history_of key.0 marks) call wrote stamp value
  is : is_of key.0 marks call ≡ true

took_effect : (marks : List Mark) (key : KeyId) (call : Call) (stamp : Stamp) → Answered marks key call stamp → Took marks key call stamp
took_effect marks key call stamp (inl it) = record { wrote = false; value = it.0; took = reads_in_history marks key call stamp it.0 it.1 it.2; is = register_call_is_of key.0 marks call key w.Read refl refl it.1 }
took_effect marks key call stamp (inr it) = record { wrote = true; value = it.0; took = stored_in_history marks key call stamp it.0 it.1 it.2; is = register_call_is_of key.0 marks call key (w.Write it.0) refl refl it.1 }

-- a call that was answered before another one began was so in the key's history
ends_before_in_history : (key : ℕ) (marks : List Mark) (first second : Call) → is_of key marks first ≡ true → is_of key marks second ≡ true → EndsBefore marks first second → EndsBefore (history_of key marks) first second
unfolding history_of
ends_before_in_history key marks first second first_is second_is e = record {
  earlier = filter (is_kept key marks) e.earlier;
  later = filter (is_kept key marks) e.later;
  key = e.key;
  work = e.work;
  split = ap (λ (ms : List Mark). filter (is_kept key marks) ms) e.split ∙ filter-append (is_kept key marks) e.earlier (k.Begin second e.key e.work ∷ e.later)
      ∙ ap (λ (ms : List Mark). filter (is_kept key marks) e.earlier ++ ms) kept_head;
  reply = e.reply;
  answered = e.answered;
  ended = into_filter (is_kept key marks) e.earlier (k.End first e.reply) first_is e.ended;
}
  where
    kept_head : filter (is_kept key marks) (k.Begin second e.key e.work ∷ e.later) ≡ k.Begin second e.key e.work ∷ filter (is_kept key marks) e.later
    kept_head = subst (λ (b : Bool). cond b (k.Begin second e.key e.work ∷ filter (is_kept key marks) e.later) (filter (is_kept key marks) e.later) ≡ k.Begin second e.key e.work ∷ filter (is_kept key marks) e.later) (sym second_is) refl

-- nothing is below stamp zero
zero_is_lowest : (stamp : Stamp) → IsAbove stamp_zero stamp → ⊥
zero_is_lowest stamp h = grind (arith, common_steps)

module _ (marks : List Mark) (call : Call) (reply : Reply) (kept : Call → Option CallState) (last : ℕ → ℕ) (drawn : Stamp → Bool) (top : ℕ → Stamp) (h : Tells marks kept last drawn) (keeps : KeepsCall marks (k.End call reply)) (c : Counted marks kept top) where
  -- no ticket is stamp zero
  drawn_not_zero : (other : Call) (stamp : Stamp) → Contains marks (k.Ticket other stamp) → stamp ≡ stamp_zero → ⊥
  drawn_not_zero other stamp ticket is = let own = h.own other stamp ticket in let n = own.2 in let e = ap (λ (s : Stamp). s.number) is in absurd (omega (arith, n, e))

  -- a read of a ticket is a read of its write's key
  given_key : (other : Call) (state : CallState) (stamp : Stamp) → kept other ≡ Some state → Contains marks (k.Ticket other stamp) → (g : IsGiven marks stamp) → state.key ≡ g.reads.read.0
  given_key other state stamp at ticket g = elim (c.given g.reader g.reads.read.0 stamp g.value g.reads.read.1 g.reads.ended) as (λ _. state.key ≡ g.reads.read.0) [
    | inl none ↦ absurd (drawn_not_zero other stamp ticket none.0)
    | inr it ↦
        let one = h.own other stamp ticket in
        let two = h.own it.1.writer stamp it.1.ticket in
        let same = one_call it.1.writer.proxy other.proxy it.1.writer.seq other.seq (sym two.0 ∙ one.0) (sym two.1 ∙ one.1) in
        (one_state marks kept last drawn h other state at g.reads.read.0 (w.Write g.value) (subst (λ (d : Call). Contains marks (k.Begin d g.reads.read.0 (w.Write g.value))) same it.1.begun)).0
  ]

  begun_still : (other : Call) (state : CallState) (value : List ℕ) → kept other ≡ Some state → state.work ≡ w.Write value → Contains (more marks (k.End call reply)) (k.Begin other state.key (w.Write value))
  begun_still other state value at does = still marks (k.End call reply) (k.Begin other state.key (w.Write value)) (subst (λ (x : Work). Contains marks (k.Begin other state.key x)) does (h.told other state at).begun)

  given_still_of_key : (other : Call) (state : CallState) (stamp : Stamp) → kept other ≡ Some state → Contains marks (k.Ticket other stamp) → IsGiven marks stamp → IsGiven (history_of state.key.0 (more marks (k.End call reply))) stamp
  given_still_of_key other state stamp at ticket g =
      subst (λ (x : KeyId). IsGiven (history_of x.0 (more marks (k.End call reply))) stamp) (sym (given_key other state stamp at ticket g))
      (given_in_history (more marks (k.End call reply)) g.reads.read.0 stamp g.reader g.value (still marks (k.End call reply) (k.Begin g.reader g.reads.read.0 w.Read) g.reads.read.1)
      (still marks (k.End call reply) (k.End g.reader (r.Value stamp g.value)) g.reads.ended))

  -- a write that counted so far counts in its key's history
  counts_in_history : (other : Call) (state : CallState) (value : List ℕ) (stamp : Stamp) → kept other ≡ Some state → state.work ≡ w.Write value → CountsWith marks other stamp → Writes (history_of state.key.0 (more marks (k.End call reply))) other stamp value
  counts_in_history other state value stamp at does (inl ended) =
      stored_in_history (more marks (k.End call reply)) state.key other stamp value (begun_still other state value at does) (still marks (k.End call reply) (k.End other (r.Stored stamp)) ended)
  counts_in_history other state value stamp at does (inr it) =
      drawn_in_history (more marks (k.End call reply)) state.key other stamp value (begun_still other state value at does) (still marks (k.End call reply) (k.Ticket other stamp) it.0) (given_still_of_key other state stamp at it.0 it.1)

  -- a write that a read gave ends dead
  pub end_breaks_dead : (state : CallState) (stamp : Stamp) → kept call ≡ Some state → state.counted ≡ Some stamp → is_dead reply ≡ true → KeepsDead marks (k.End call reply) → ⊥
  end_breaks_dead state stamp at counted dead none =
      let it = c.each call state at in
      let write = it.writes stamp (is_open state at) counted in
      elim (it.counts write.0 stamp write.1 counted).0 as (λ _. ⊥) [
        | inl ended ↦ not_ended (r.Stored stamp) ended
        | inr that ↦
            let begun = begun_still call state write.0 at write.1 in
            let is = register_call_is_of state.key.0 (more marks (k.End call reply)) call state.key (w.Write write.0) refl refl begun in
            none state.key.0 call reply stamp write.0 (state.key, in_history state.key.0 (more marks (k.End call reply)) (k.Begin call state.key (w.Write write.0)) is begun)
            (in_history state.key.0 (more marks (k.End call reply)) (k.Ticket call stamp) is (still marks (k.End call reply) (k.Ticket call stamp) that.0))
            (given_still_of_key call state stamp at that.0 that.1)
            (in_history state.key.0 (more marks (k.End call reply)) (k.End call reply) is (Contains-push marks (k.End call reply))) dead
      ]
    where
      not_ended : (one : Reply) → EndsWith marks call one → ⊥
      not_ended one ended = let open_ : IsOpen marks call = keeps in open_.unended one ended

      is_open : (s : CallState) → kept call ≡ Some s → s.ending ≡ Open
      is_open s found = by_ending s.ending refl
        where
          by_ending : (e : Ending) → s.ending ≡ e → s.ending ≡ Open
          by_ending Open e = e
          by_ending Ended e = absurd (let it = (h.told call s found).ended (λ o. let f = sym e ∙ o in cc f) in not_ended it.0 it.1)
          by_ending Dead e = absurd (let it = (h.told call s found).ended (λ o. let f = sym e ∙ o in cc f) in not_ended it.0 it.1)

  -- where no write that ended dead is given by this line, none is
  pub still_none_dead : is_dead reply ≡ false → ((other : Call) (stamp : Stamp) (one : Reply) → Contains marks (k.Ticket other stamp) → GivesHere marks (k.End call reply) stamp → EndsWith marks other one → is_dead one ≡ true → ⊥) → KeepsDead marks (k.End call reply)
  still_none_dead alive none_here key other one stamp value write ticket given ended dead =
      let begun = begun_there (in_log key (more marks (k.End call reply)) (k.Begin other write.0 (w.Write value)) write.1).1 in
      let drew = ticket_there (in_log key (more marks (k.End call reply)) (k.Ticket other stamp) ticket).1 in
      let over = ended_there (in_log key (more marks (k.End call reply)) (k.End other one) ended).1 in
      let it = h.begun other write.0 (w.Write value) begun in
      let of_ = c.each other it.state it.found in
      elim (given_cases marks (k.End call reply) kept last drawn h keeps stamp (given_in_log key (more marks (k.End call reply)) stamp given)) as (λ _. ⊥) [
        | inl was ↦
            let some = of_.counted value stamp it.work_is (inr (drew, was)) in
            let none = of_.dead value one it.work_is over dead in
            cc (sym some ∙ none)
        | inr here ↦ none_here other stamp one drew here over dead
      ]
    where
      begun_there : Contains (more marks (k.End call reply)) (k.Begin other write.0 (w.Write value)) → Contains marks (k.Begin other write.0 (w.Write value))
      begun_there b = elim (Contains-push_cases marks (k.End call reply) (k.Begin other write.0 (w.Write value)) b) as (λ _. Contains marks (k.Begin other write.0 (w.Write value))) [ inl old ↦ old | inr e ↦ absurd (cc e) ]

      ticket_there : Contains (more marks (k.End call reply)) (k.Ticket other stamp) → Contains marks (k.Ticket other stamp)
      ticket_there t = elim (Contains-push_cases marks (k.End call reply) (k.Ticket other stamp) t) as (λ _. Contains marks (k.Ticket other stamp)) [ inl old ↦ old | inr e ↦ absurd (cc e) ]

      reply_in : k.End call reply ≡ k.End other one → reply ≡ one
      reply_in e = cc

      ended_there : EndsWith (more marks (k.End call reply)) other one → EndsWith marks other one
      ended_there t = elim (Contains-push_cases marks (k.End call reply) (k.End other one) t) as (λ _. EndsWith marks other one) [
        | inl old ↦ old
        | inr e ↦ absurd (let f = subst (λ (x : Reply). is_dead x ≡ false) (reply_in e) alive in cc (f, dead))
      ]

  -- a write counts with another stamp than it did, or with one that isn't above its floor
  pub write_breaks_order : (other : Call) (state : CallState) (value : List ℕ) (stamp : Stamp) → kept other ≡ Some state → state.work ≡ w.Write value → 1 ≤ stamp.number → Writes (history_of state.key.0 (more marks (k.End call reply))) other stamp value
      → (CountsAs state.counted state.floor stamp → ⊥) → KeepsOrder marks (k.End call reply) → ⊥
  write_breaks_order other state value stamp at does number writes may_not order = by_count state.counted refl may_not
    where
      by_count : (o : Option Stamp) → state.counted ≡ o → (CountsAs o state.floor stamp → ⊥) → ⊥
      by_count (Some one) e not_ =
          let before = counts_in_history other state value one at does ((c.each other state at).counts value one does e).0 in
          not_ ((order state.key.0).one_stamp other one stamp value value before writes)
      by_count None e not_ = elim (c.each other state at).floor_is as (λ _. ⊥) [
        | inl none ↦ not_ (subst (λ (f : Stamp). IsAbove stamp f) (sym none) (numbered_above_zero stamp number))
        | inr it ↦
            let first = took_effect (more marks (k.End call reply)) state.key it.0 state.floor (answered_still marks (k.End call reply) state.key it.0 state.floor it.2) in
            let is = register_call_is_of state.key.0 (more marks (k.End call reply)) other state.key (w.Write value) refl refl (begun_still other state value at does) in
            not_ ((order state.key.0).in_time (record { call = it.0; wrote = first.wrote; stamp = state.floor; value = first.value }) (record { call = other; wrote = true; stamp = stamp; value = value }) first.took writes
            (ends_before_in_history state.key.0 (more marks (k.End call reply)) it.0 other first.is is (ends_before_still marks (k.End call reply) it.0 other it.1)))
      ]

-- a read gives a stamp below its floor
module _ (marks : List Mark) (call : Call) (key : KeyId) (floor stamp : Stamp) (value : List ℕ) (kept : Call → Option CallState) (last : ℕ → ℕ) (drawn : Stamp → Bool) (top : ℕ → Stamp) (h : Tells marks kept last drawn)
    (keeps : KeepsCall marks (k.End call (r.Value stamp value))) (c : Counted marks kept top) (is : EndsAsRead (kept call) key floor) where
  read_begun : Contains (more marks (k.End call (r.Value stamp value))) (k.Begin call key w.Read)
  read_begun =
      still marks (k.End call (r.Value stamp value)) (k.Begin call key w.Read)
      (subst (λ (x : Work). Contains marks (k.Begin call key x)) is.kept.work_is (subst (λ (x : KeyId). Contains marks (k.Begin call x is.kept.state.work)) is.kept.key_is (h.told call is.kept.state is.kept.found).begun))

  read_here : Reads (history_of key.0 (more marks (k.End call (r.Value stamp value)))) call stamp value
  read_here = reads_in_history (more marks (k.End call (r.Value stamp value))) key call stamp value read_begun (Contains-push marks (k.End call (r.Value stamp value)))

  given_here : IsGiven (history_of key.0 (more marks (k.End call (r.Value stamp value)))) stamp
  given_here = record { reader = call; value = value; reads = read_here }

  read_breaks_order : IsAbove floor stamp → KeepsOrder marks (k.End call (r.Value stamp value)) → ⊥
  read_breaks_order above order = elim (c.each call is.kept.state is.kept.found).floor_is as (λ _. ⊥) [
    | inl none ↦ zero_is_lowest stamp (subst (λ (f : Stamp). IsAbove f stamp) (sym is.floor_is ∙ none) above)
    | inr it ↦
        let mark : Mark = k.End call (r.Value stamp value) in
        let answered = subst (λ (x : KeyId). Answered marks x it.0 floor) is.kept.key_is (subst (λ (f : Stamp). Answered marks is.kept.state.key it.0 f) is.floor_is it.2) in
        let first = took_effect (more marks mark) key it.0 floor (answered_still marks mark key it.0 floor answered) in
        (order key.0).in_time (record { call = it.0; wrote = first.wrote; stamp = floor; value = first.value }) (record { call = call; wrote = false; stamp = stamp; value = value }) first.took read_here
        (ends_before_in_history key.0 (more marks mark) it.0 call first.is (register_call_is_of key.0 (more marks mark) call key w.Read refl refl read_begun) (ends_before_still marks mark it.0 call it.1)) above
  ]

  stamp_in : (other : Stamp) → GivesHere marks (k.End call (r.Value stamp value)) other → other ≡ stamp
  stamp_in other here = value_in here.0 other here.2 here.3.is
    where
      value_in : (d : Call) (s : Stamp) (v : List ℕ) → k.End call (r.Value stamp value) ≡ k.End d (r.Value s v) → s ≡ stamp
      value_in d s v e = cc

  -- what the write that is kept began, and its key's history
  writer_begun : (writer : CallState) → IsWriter marks kept key stamp value writer → Contains (more marks (k.End call (r.Value stamp value))) (k.Begin (drawer_of stamp) key (w.Write value))
  writer_begun writer by =
      still marks (k.End call (r.Value stamp value)) (k.Begin (drawer_of stamp) key (w.Write value))
      (subst (λ (x : Work). Contains marks (k.Begin (drawer_of stamp) key x)) by.work_is (subst (λ (x : KeyId). Contains marks (k.Begin (drawer_of stamp) x writer.work)) by.key_is (h.told (drawer_of stamp) writer by.found).begun))

  pub read_breaks_dead : GivesDead marks kept key stamp value → KeepsDead marks (k.End call (r.Value stamp value)) → ⊥
  read_breaks_dead it none =
      let mark : Mark = k.End call (r.Value stamp value) in
      let writer = it.1.0 in
      let by = it.1.1 in
      let begun = writer_begun writer by in
      let of_ = register_call_is_of key.0 (more marks mark) (drawer_of stamp) key (w.Write value) refl refl begun in
      let dies = (c.each (drawer_of stamp) writer by.found).dies it.1.2 in
      none key.0 (drawer_of stamp) dies.0 stamp value (key, in_history key.0 (more marks mark) (k.Begin (drawer_of stamp) key (w.Write value)) of_ begun)
      (in_history key.0 (more marks mark) (k.Ticket (drawer_of stamp) stamp) of_ (still marks mark (k.Ticket (drawer_of stamp) stamp) by.drawn)) given_here
      (in_history key.0 (more marks mark) (k.End (drawer_of stamp) dies.0) of_ (still marks mark (k.End (drawer_of stamp) dies.0) dies.1)) dies.2

  pub read_out_of_order : GivesOutOfOrder marks kept key floor stamp value → KeepsDead marks (k.End call (r.Value stamp value)) × (KeepsOrder marks (k.End call (r.Value stamp value)) → ⊥)
  read_out_of_order (inl it) = (
    still_none_dead marks call (r.Value stamp value) kept last drawn top h keeps c refl
        (λ other one reply ticket here ended dead. drawn_not_zero marks call (r.Value stamp value) kept last drawn top h keeps c other one ticket (stamp_in one here ∙ it.0)),
    read_breaks_order (subst (λ (s : Stamp). IsAbove floor s) (sym it.0) it.2),
  )
  read_out_of_order (inr it) = (
    still_none_dead marks call (r.Value stamp value) kept last drawn top h keeps c refl alive,
    (λ order. elim it.1.3 as (λ _. ⊥) [ inl above ↦ read_breaks_order above order | inr may_not ↦ out may_not order ]),
  )
    where
      mark : Mark
      mark = k.End call (r.Value stamp value)

      alive : (other : Call) (one : Stamp) (reply : Reply) → Contains marks (k.Ticket other one) → GivesHere marks mark one → EndsWith marks other reply → is_dead reply ≡ true → ⊥
      alive other one reply ticket here ended dead =
          let drew = subst (λ (s : Stamp). Contains marks (k.Ticket other s)) (stamp_in one here) ticket in
          let own = h.own other stamp drew in
          let same : other ≡ drawer_of stamp = one_call other.proxy stamp.proxy other.seq stamp.seq (sym own.0) (sym own.1) in
          let no_ = (c.each (drawer_of stamp) it.1.0 it.1.1.found).lives it.1.2 reply (subst (λ (d : Call). EndsWith marks d reply) same ended) in
          cc (no_, dead)

      out : (CountsAs it.1.0.counted it.1.0.floor stamp → ⊥) → KeepsOrder marks mark → ⊥
      out may_not order =
          let by = it.1.1 in
          let writes = drawn_in_history (more marks mark) key (drawer_of stamp) stamp value (writer_begun it.1.0 by) (still marks mark (k.Ticket (drawer_of stamp) stamp) by.drawn) given_here in
          write_breaks_order marks call (r.Value stamp value) kept last drawn top h keeps c (drawer_of stamp) it.1.0 value stamp by.found by.work_is (h.own (drawer_of stamp) stamp by.drawn).2
          (subst (λ (x : KeyId). Writes (history_of x.0 (more marks mark)) (drawer_of stamp) stamp value) (sym by.key_is) writes) may_not order

-- a write is answered with a stamp with which it may not count
pub stored_out_of_order : (marks : List Mark) (call : Call) (stamp : Stamp) (kept : Call → Option CallState) (last : ℕ → ℕ) (drawn : Stamp → Bool) (top : ℕ → Stamp) → Tells marks kept last drawn → KeepsCall marks (k.End call (r.Stored stamp)) → Counted marks kept top
    → (state : CallState) (value : List ℕ) → kept call ≡ Some state → state.work ≡ w.Write value → Contains marks (k.Ticket call stamp) → (CountsAs state.counted state.floor stamp → ⊥)
    → KeepsDead marks (k.End call (r.Stored stamp)) × (KeepsOrder marks (k.End call (r.Stored stamp)) → ⊥)
stored_out_of_order marks call stamp kept last drawn top h keeps c state value at does ticket may_not = (
  still_none_dead marks call (r.Stored stamp) kept last drawn top h keeps c refl (λ other one reply ticket_ here ended dead. no_read here.0 one here.2 here.3.is),
  write_breaks_order marks call (r.Stored stamp) kept last drawn top h keeps c call state value stamp at does (h.own call stamp ticket).2
      (stored_in_history (more marks (k.End call (r.Stored stamp))) state.key call stamp value (begun_still marks call (r.Stored stamp) kept last drawn top h keeps c call state value at does) (Contains-push marks (k.End call (r.Stored stamp)))) may_not,
)
  where
    no_read : (d : Call) (s : Stamp) (v : List ℕ) → k.End call (r.Stored stamp) ≡ k.End d (r.Value s v) → ⊥
    no_read d s v e = cc
