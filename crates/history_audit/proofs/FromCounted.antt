-- Where what is kept is what the lines tell, no read gives a dead write's ticket, and the calls of each key are in order.
use Rattle.std.proofs.Common.{◌≡◌, inl, inr, ℕ, Bool, true, false, List, [], ◌∷◌, Option, Some, sym, ap, subst, ◌∙◌}
use Rattle.std.specs.Prelude.{Contains}
use Rattle.std.proofs.lemmas.Option.{same_Some}
use Rattle.std.proofs.lemmas.List.Elements.{Contains-append_left}
use Rattle.span_base.proofs.KeyIds.{same_key}
use Rattle.span_base.specs.declared.ids.Call.{Call}
use Rattle.span_base.specs.declared.ids.KeyId.{KeyId}
use Rattle.ticket_rules.specs.declared.stamp.Stamp.{Stamp}
use Rattle.wire_msg.specs.declared.outputs.Reply.{Reply}
use Rattle.wire_msg.specs.declared.outputs.Reply.TheVariants as r
use Rattle.run_marks.specs.declared.mark.Work.{Work}
use Rattle.run_marks.specs.declared.mark.Work.TheVariants as w
use Rattle.run_marks.specs.declared.mark.Mark.{Mark}
use Rattle.run_marks.specs.declared.mark.Mark.TheVariants as k
use Rattle.run_marks.specs.History.{history_of, is_ok, EndsBefore, EndsWith, IsGiven, Writes}
use Rattle.run_marks.specs.Register.{Effect, IsEffectOf, TookEffect}
use Rattle.ticket_rules.specs.Stamp.{IsAtMost}
use Rattle.register_order.specs.Agree.{BeginsOnce, IsLater}
use Rattle.register_order.specs.Form.{answers_of, fits, KeepsCall}
use Rattle.register_order.specs.Clauses.{EachKeeps, IsInOrder, NoneIsDead}
use Rattle.register_order.proofs.Begins.{begins_as_one}
use Rattle.register_order.proofs.Lines.{each_weaker, where_split}
use Rattle.register_order.proofs.Members.{parted}
use Rattle.register_order.proofs.Numbered.{numbered_calls_begin_once}
use Rattle.register_order.proofs.OfKey.{ends_before_in_log, in_log, key_is}
use Rattle.register_order.proofs.Stamps.{IsAtMost-trans, above_from_at_most}
use Rattle.history_audit.specs.declared.calls.CallState.{CallState}
use Rattle.history_audit.specs.Told.{IsKept, KeepsFirst, Tells}
use Rattle.history_audit.specs.Counted.{Answered, CountsWith, Counted}

-- what a key's history has, the log has
pub given_in_log : (key : ℕ) (marks : List Mark) (stamp : Stamp) → IsGiven (history_of key marks) stamp → IsGiven marks stamp
given_in_log key marks stamp g = record {
  reader = g.reader;
  value = g.value;
  reads = record {
    read = (g.reads.read.0, (in_log key marks (k.Begin g.reader g.reads.read.0 w.Read) g.reads.read.1).1);
    ended = (in_log key marks (k.End g.reader (r.Value stamp g.value)) g.reads.ended).1;
  };
}

pub none_is_dead : (marks : List Mark) (kept : Call → Option CallState) (last : ℕ → ℕ) (drawn : Stamp → Bool) (top : ℕ → Stamp) → Tells marks kept last drawn → Counted marks kept top → (key : ℕ) → NoneIsDead (history_of key marks)
none_is_dead marks kept last drawn top h c key call reply stamp value write ticket given ended dead =
    let begun = (in_log key marks (k.Begin call write.0 (w.Write value)) write.1).1 in
    let it = h.begun call write.0 (w.Write value) begun in
    let one = (c.each call it.state it.found).counted value stamp it.work_is (inr ((in_log key marks (k.Ticket call stamp) ticket).1, given_in_log key marks stamp given)) in
    let none = (c.each call it.state it.found).dead value reply it.work_is (in_log key marks (k.End call reply) ended).1 dead in
    cc (sym one ∙ none)

-- a call ends only as its work may
end_fits : (marks : List Mark) → EachKeeps KeepsFirst [] marks → BeginsOnce marks → (call : Call) (reply : Reply) (key : KeyId) (work : Work) → EndsWith marks call reply → Contains marks (k.Begin call key work) → fits (answers_of work) reply ≡ true
end_fits marks each once call reply key work ended begun =
    let p = parted marks (k.End call reply) ended in
    let line = where_split KeepsFirst marks p.0 p.1 (k.End call reply) each p.2 in
    let open_ = line.form.call in
    let there = subst (λ (ms : List Mark). Contains ms (k.Begin call open_.key open_.work)) (sym p.2) (Contains-append_left p.0 (k.End call reply ∷ p.1) (k.Begin call open_.key open_.work) open_.begun) in
    let same = begins_as_one marks once call open_.key key open_.work work there begun in
    let works : open_.work ≡ work = work_in call open_.key key open_.work work same in
    subst (λ (x : Work). fits (answers_of x) reply ≡ true) works (line.form.kind open_.key open_.work open_.begun)
  where
    work_in : (c : Call) (p q : KeyId) (a b : Work) → k.Begin c q b ≡ k.Begin c p a → a ≡ b
    work_in c p q a b e = cc

-- a write that counts in its key's history is kept so
record WriteIsKept (marks : List Mark) (kept : Call → Option CallState) (key : ℕ) (call : Call) (stamp : Stamp) (value : List ℕ) : Type 0 where
  at : KeyId
  at_is : at.0 ≡ key
  begun : Contains marks (k.Begin call at (w.Write value))
  is : IsKept (kept call) at (w.Write value)
  counted : is.state.counted ≡ Some stamp

write_is_kept : (marks : List Mark) (kept : Call → Option CallState) (last : ℕ → ℕ) (drawn : Stamp → Bool) (top : ℕ → Stamp) → Tells marks kept last drawn → Counted marks kept top → BeginsOnce marks
    → (key : ℕ) (call : Call) (stamp : Stamp) (value : List ℕ) → Writes (history_of key marks) call stamp value → WriteIsKept marks kept key call stamp value
write_is_kept marks kept last drawn top h c once key call stamp value writes =
    let log = in_log key marks (k.Begin call writes.write.0 (w.Write value)) writes.write.1 in
    let it = h.begun call writes.write.0 (w.Write value) log.1 in
    record {
      at = writes.write.0;
      at_is = key_is key marks once call writes.write.0 (w.Write value) log.0 log.1;
      begun = log.1;
      is = it;
      counted = (c.each call it.state it.found).counted value stamp it.work_is with_;
    }
  where
    with_ : CountsWith marks call stamp
    with_ = elim writes.counts as (λ _. CountsWith marks call stamp) [
      | inl ended ↦ inl (in_log key marks (k.End call (r.Stored stamp)) ended).1
      | inr it ↦ inr ((in_log key marks (k.Ticket call stamp) it.0).1, given_in_log key marks stamp it.1)
    ]

-- a call that counts and was answered before another began was answered with its stamp
answered_so : (marks : List Mark) (kept : Call → Option CallState) (last : ℕ → ℕ) (drawn : Stamp → Bool) (top : ℕ → Stamp) → Tells marks kept last drawn → Counted marks kept top → EachKeeps KeepsFirst [] marks → BeginsOnce marks
    → (key : ℕ) (at : KeyId) → at.0 ≡ key → (call : Call) (wrote : Bool) (stamp : Stamp) (value : List ℕ) (reply : Reply) → TookEffect (history_of key marks) call wrote stamp value → EndsWith marks call reply → is_ok reply ≡ true → Answered marks at call stamp
answered_so marks kept last drawn top h c each once key at at_is call true stamp value reply effect ended ok = by_reply reply ended ok
  where
    it : WriteIsKept marks kept key call stamp value
    it = write_is_kept marks kept last drawn top h c once key call stamp value effect

    begun : Contains marks (k.Begin call at (w.Write value))
    begun = subst (λ (x : KeyId). Contains marks (k.Begin call x (w.Write value))) (same_key it.at at (it.at_is ∙ sym at_is)) it.begun

    by_reply : (one : Reply) → EndsWith marks call one → is_ok one ≡ true → Answered marks at call stamp
    by_reply (r.Value other given) e o = absurd (let f = end_fits marks each once call (r.Value other given) at (w.Write value) e begun in cc f)
    by_reply (r.Stored other) e o =
        let one = (c.each call it.is.state it.is.found).counted value other it.is.work_is (inl e) in
        let same = same_Some other stamp (sym one ∙ it.counted) in
        inr (value, begun, subst (λ (s : Stamp). EndsWith marks call (r.Stored s)) same e)
    by_reply (r.At epoch) e o = absurd (cc o)
    by_reply (r.Moved epoch) e o = absurd (cc o)
    by_reply (r.Fenced held) e o = absurd (cc o)
    by_reply r.Unsure e o = absurd (cc o)
    by_reply (r.Current epoch) e o = absurd (cc o)
    by_reply (r.Stale epoch) e o = absurd (cc o)
    by_reply r.Outside e o = absurd (cc o)
    by_reply r.Full e o = absurd (cc o)
    by_reply r.NumbersOut e o = absurd (cc o)
    by_reply r.GivenUp e o = absurd (cc o)
answered_so marks kept last drawn top h c each once key at at_is call false stamp value reply effect ended ok =
    let log = in_log key marks (k.Begin call effect.read.0 w.Read) effect.read.1 in
    let same = same_key effect.read.0 at (key_is key marks once call effect.read.0 w.Read log.0 log.1 ∙ sym at_is) in
    inl (value, subst (λ (x : KeyId). Contains marks (k.Begin call x w.Read)) same log.1, (in_log key marks (k.End call (r.Value stamp value)) effect.ended).1)

-- a call that counts isn't below its floor, a write is above it
above_floor : (marks : List Mark) (kept : Call → Option CallState) (last : ℕ → ℕ) (drawn : Stamp → Bool) (top : ℕ → Stamp) → Tells marks kept last drawn → Counted marks kept top → BeginsOnce marks
    → (key : ℕ) (call : Call) (wrote : Bool) (stamp : Stamp) (value : List ℕ) → TookEffect (history_of key marks) call wrote stamp value
    → (low : Stamp) → ((state : CallState) → kept call ≡ Some state → state.key.0 ≡ key → IsAtMost low state.floor) → IsLater wrote stamp low
above_floor marks kept last drawn top h c once key call true stamp value effect low floor =
    let it = write_is_kept marks kept last drawn top h c once key call stamp value effect in
    let at = ap (λ (x : KeyId). x.0) it.is.key_is ∙ it.at_is in
    above_from_at_most low it.is.state.floor stamp ((c.each call it.is.state it.is.found).counts value stamp it.is.work_is it.counted).1 (floor it.is.state it.is.found at)
above_floor marks kept last drawn top h c once key call false stamp value effect low floor =
    let log = in_log key marks (k.Begin call effect.read.0 w.Read) effect.read.1 in
    let it = h.begun call effect.read.0 w.Read log.1 in
    let at = ap (λ (x : KeyId). x.0) it.key_is ∙ key_is key marks once call effect.read.0 w.Read log.0 log.1 in
    IsAtMost-trans low it.state.floor stamp (floor it.state it.found at) ((c.each call it.state it.found).reads stamp value it.work_is (in_log key marks (k.End call (r.Value stamp value)) effect.ended).1)

pub in_order : (marks : List Mark) (kept : Call → Option CallState) (last : ℕ → ℕ) (drawn : Stamp → Bool) (top : ℕ → Stamp) → Tells marks kept last drawn → Counted marks kept top → EachKeeps KeepsFirst [] marks → (key : ℕ) → IsInOrder (history_of key marks)
in_order marks kept last drawn top h c each key = record { one_stamp = one_stamp; in_time = in_time }
  where
    once : BeginsOnce marks
    once = numbered_calls_begin_once marks (each_weaker KeepsFirst KeepsCall (λ before mark keeps. keeps.form.call) [] marks each)

    one_stamp : (call : Call) (one other : Stamp) (v u : List ℕ) → Writes (history_of key marks) call one v → Writes (history_of key marks) call other u → one ≡ other
    one_stamp call one other v u a b =
        let x = write_is_kept marks kept last drawn top h c once key call one v a in
        let y = write_is_kept marks kept last drawn top h c once key call other u b in
        let same = same_Some x.is.state y.is.state (sym x.is.found ∙ y.is.found) in
        same_Some one other (sym x.counted ∙ ap (λ (s : CallState). s.counted) same ∙ y.counted)

    in_time : (first second : Effect) → IsEffectOf (history_of key marks) first → IsEffectOf (history_of key marks) second → EndsBefore (history_of key marks) first.call second.call → IsLater second.wrote second.stamp first.stamp
    in_time first second a b e =
        let log = ends_before_in_log key marks first.call second.call e in
        let ended = subst (λ (ms : List Mark). Contains ms (k.End first.call log.reply)) (sym log.split) (Contains-append_left log.earlier (k.Begin second.call log.key log.work ∷ log.later) (k.End first.call log.reply) log.ended) in
        above_floor marks kept last drawn top h c once key second.call second.wrote second.stamp second.value b first.stamp
        (λ state at is. (c.each second.call state at).floors first.call first.stamp log (answered_so marks kept last drawn top h c each once key state.key is first.call first.wrote first.stamp first.value log.reply a ended log.answered))
