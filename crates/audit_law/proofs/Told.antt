-- After each event the lines tell of each call that lives what they should.
use Rattle.std.proofs.Common.{◌≡◌, ℕ, List, ◌∷◌, ◌++◌, refl, sym, ap, subst, arith, Option, Some, None, Contains}
use Rattle.register_law.proofs.Words.{Call, KeyId, Stamp, tag_of, Message, Outputs, Reply, View, Tag, Handle, Mark, Work, key_of_call, tag_of_call, learned, Store, proxy_at, view_at, Happening, end_marks, handle_in, ticket_marks, LiveCall, CallTook, Happened, Started, next_call, IsLiveAt, Contains-append_left, Contains-append_right}
use Rattle.run_marks.specs.declared.mark.Mark.TheVariants as k
use Rattle.world_core.specs.Starting as starting
use Rattle.register_law.proofs.TagsSends.{GoesOn, stays, turns, ends}
use Rattle.register_law.proofs.TagsSteps.{may_ask, take_goes_on}
use Rattle.register_law.proofs.TagsCalls.{started_opens, taken_of, started_as}
use Rattle.register_law.proofs.CallsOthers.{take_ticket}
use Rattle.register_law.proofs.CallsLive.{LiveAfter, stayed, begun, went_on, tickets_in, live_after}
use Rattle.register_law.proofs.MarksAre.{start_ticket}
use Rattle.audit_law.specs.Live.{HasLatest, IsTold, LogIsFormed}
use Rattle.audit_law.proofs.Tickets.{DrawsOnly}
use Rattle.audit_law.proofs.Takes.{take_does, take_latest, latest_stays}
use Rattle.audit_law.proofs.Opened.{IsBegun, call_begun, begun_does, begun_latest}
use Rattle.audit_law.proofs.Unended.{next_call_is_new, unended_after}

none_is : (stamp : Stamp) (X : Type 0) → None ≡ Some stamp → X
none_is stamp X e = absurd (cc)

goes_call : (May : Stamp → Type 0) (tag : Tag) (key : KeyId) (call : LiveCall) (out : Outputs) → GoesOn May tag key call out → (tag_of_call call).call ≡ tag.call
goes_call May tag key call out (stays k t none) = ap (λ (x : Tag). x.call) t
goes_call May tag key call out (turns k t sends) = ap (λ (x : Tag). x.call) t
goes_call May tag key call out (ends k t some sends) = ap (λ (x : Tag). x.call) t

-- a call that takes a message stays the call that it is
same_call : (s : Store) (p : ℕ) (message : Message) (was : LiveCall) → (tag_of_call (taken_of s p message was).state).call ≡ (tag_of_call was).call
same_call s p message was =
    goes_call (may_ask was) (tag_of_call was) (key_of_call was) (taken_of s p message was).state (taken_of s p message was).out
    (take_goes_on was message (view_at (learned (proxy_at s p) message).views (key_of_call was)) (learned (proxy_at s p) message).seen)

-- the tickets of an event in which a call takes a message are this call's
pub took_draws : (s : Store) (p : ℕ) (message : Message) (was : LiveCall) → DrawsOnly (tag_of_call was).call (taken_of s p message was).out.ticket (ticket_marks (tag_of message).call (taken_of s p message was).out.ticket ++ end_marks (tag_of message).call (taken_of s p message was).out.end)
took_draws s p message was = record {
  drawn = λ stamp e.
      let own : tag_of_call was ≡ tag_of message = take_ticket was message (view_at (learned (proxy_at s p) message).views (key_of_call was)) (learned (proxy_at s p) message).seen stamp e in
      there (taken_of s p message was).out.ticket (taken_of s p message was).out.end (tag_of_call was).call (tag_of message).call stamp e (ap (λ (t : Tag). t.call) own);
  only = λ stamp c. (tickets_in (tag_of message).call (tag_of_call was).call (taken_of s p message was).out.ticket (taken_of s p message was).out.end stamp c).0;
}
  where
    there : (t : Option Stamp) (o : Option Reply) (own call : Call) (stamp : Stamp) → t ≡ Some stamp → own ≡ call → Contains (ticket_marks call t ++ end_marks call o) (k.Ticket own stamp)
    there None o own call stamp e same = none_is stamp (Contains (end_marks call o) (k.Ticket own stamp)) e
    there (Some t) o own call stamp e same = let is : t ≡ stamp = cc in (0, omega arith, cc)

first_mark : (call : Call) (at : KeyId) (work : Work) (rest : List Mark) → Contains (k.Begin call at work ∷ rest) (k.Begin call at work)
first_mark call at work rest = (0, omega arith, refl)

-- a call that began
told_begun : (s : Store) (h : Happening) (marks : List Mark) → LogIsFormed s marks → (p : ℕ) (at : KeyId) (work : Work) (st : Started s p at work h) → ((reply : Reply) → Contains (marks ++ h.marks) (k.End (tag_of_call st.taken.state).call reply) → ⊥) → IsTold (marks ++ h.marks) st.taken.state
told_begun s h marks f p at work st unended =
    let opened = started_opens s p at work h st in
    let own : (tag_of_call st.taken.state).call ≡ next_call s p = ap (λ (t : Tag). t.call) opened.tag_is in
    let marks_is : h.marks ≡ k.Begin (next_call s p) at work ∷ starting.ticket_marks (next_call s p) (start_ticket s p at) work = ap (λ (x : Happening). x.marks) st.is in
    let is_begun : IsBegun work (start_ticket s p at) st.taken.state =
    call_begun _ _ _ (start_ticket s p at) _ work st.taken refl (started_as s p at work h st) in
    record {
      at = at;
      work = work;
      begun = subst (λ (x : Call). Contains (marks ++ h.marks) (k.Begin x at work)) (sym own)
          (Contains-append_right marks h.marks (k.Begin (next_call s p) at work)
          (subst (λ (x : List Mark). Contains x (k.Begin (next_call s p) at work)) (sym marks_is) (first_mark (next_call s p) at work (starting.ticket_marks (next_call s p) (start_ticket s p at) work))));
      does = begun_does work (start_ticket s p at) st.taken.state is_begun;
      unended = unended;
      latest = subst (λ (x : List Mark). HasLatest (marks ++ x) st.taken.state) (sym marks_is)
          (begun_latest marks (next_call s p) at work (start_ticket s p at) st.taken.state (next_call_is_new s marks f p) own is_begun);
    }

-- a call that took a message and lives on
told_took : (s : Store) (h : Happening) (marks : List Mark) → LogIsFormed s marks → (p : ℕ) (message : Message) (was : LiveCall) → CallTook s p message was h
    → ((reply : Reply) → Contains (marks ++ h.marks) (k.End (tag_of_call (taken_of s p message was).state).call reply) → ⊥) → IsTold (marks ++ h.marks) (taken_of s p message was).state
told_took s h marks f p message was took unended =
    let old : IsTold marks was = f.live p (handle_in message) was took.live in
    let view : View = view_at (learned (proxy_at s p) message).views (key_of_call was) in
    let draws : DrawsOnly (tag_of_call was).call (taken_of s p message was).out.ticket h.marks =
    subst (DrawsOnly (tag_of_call was).call (taken_of s p message was).out.ticket) (sym (ap (λ (x : Happening). x.marks) took.is)) (took_draws s p message was) in
    record {
      at = old.at;
      work = old.work;
      begun = subst (λ (x : Call). Contains (marks ++ h.marks) (k.Begin x old.at old.work)) (sym (same_call s p message was)) (Contains-append_left marks h.marks (k.Begin (tag_of_call was).call old.at old.work) old.begun);
      does = take_does was message (view_at (learned (proxy_at s p) message).views (key_of_call was)) (learned (proxy_at s p) message).seen old.work marks old.does old.latest;
      unended = unended;
      latest = take_latest was message (view_at (learned (proxy_at s p) message).views (key_of_call was)) (learned (proxy_at s p) message).seen old.work marks h.marks draws (same_call s p message was) old.does old.latest;
    }

pub told_after : (s : Store) (h : Happening) (marks : List Mark) → Happened s h → LogIsFormed s marks → (p : ℕ) (handle : Handle) (live : LiveCall) → IsLiveAt h.store p handle live → IsTold (marks ++ h.marks) live
told_after s h marks is f p handle live lives = by (live_after s h f.tags is p handle live lives)
  where
    unended : (reply : Reply) → Contains (marks ++ h.marks) (k.End (tag_of_call live).call reply) → ⊥
    unended reply c = unended_after s h marks is f p handle live lives reply c

    by : LiveAfter s h p handle live → IsTold (marks ++ h.marks) live
    by (stayed there apart) =
        let old : IsTold marks live = f.live p handle live there in
        record {
          at = old.at;
          work = old.work;
          begun = Contains-append_left marks h.marks (k.Begin (tag_of_call live).call old.at old.work) old.begun;
          does = old.does;
          unended = unended;
          latest = latest_stays live marks h.marks (record { drawn = λ stamp e. none_is stamp (Contains h.marks (k.Ticket (tag_of_call live).call stamp)) e; only = λ stamp c. absurd (apart.tickets stamp c) }) old.latest;
        }
    by (begun at work st _ new) =
        subst (IsTold (marks ++ h.marks)) (sym new)
        (told_begun s h marks f p at work st (subst (λ (x : LiveCall). (reply : Reply) → Contains (marks ++ h.marks) (k.End (tag_of_call x).call reply) → ⊥) new unended))
    by (went_on message was took _ new _) =
        subst (IsTold (marks ++ h.marks)) (sym new)
        (told_took s h marks f p message was took (subst (λ (x : LiveCall). (reply : Reply) → Contains (marks ++ h.marks) (k.End (tag_of_call x).call reply) → ⊥) new unended))
