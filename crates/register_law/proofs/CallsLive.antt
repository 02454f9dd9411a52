-- Which calls live after an event, and that an event in which a call has no part sends nothing of it.
use Rattle.std.proofs.Common.{◌≡◌, inl, inr, ℕ, ◌≤◌, List, [], ◌∷◌, ◌++◌, refl, sym, ap, ◌∙◌, subst, arith, ◌≢◌, ◌⊎◌, Bool, true, false, Option, Some, None, Contains, ◌==◌, eqb-true}
use Rattle.std.proofs.lemmas.Bool.{eqb-false}
use Rattle.register_law.proofs.Words.{Call, KeyId, Stamp, tag_of, Message, Post, Reply, View, Tag, CallState, Handle, Work, tag_of_call, learned, Store, proxy_at, view_at, Happening, call_takes, end_marks, handle_in, ticket_marks, LiveCall, CallTook, Happened, Started, call_took, did, next_call, WasSent, IsLiveAt, IsPushFree, request_key, same_handle, TagsTellApart, none_among}
use Rattle.run_marks.specs.declared.mark.Mark.TheVariants as k
use Rattle.world_core.specs.Starting as starting
use Rattle.register_law.proofs.Basics.{Each, each_none, is_itself}
use Rattle.register_law.proofs.CallsOthers.{take_ticket}
use Rattle.register_law.proofs.TagsCalls.{taken_of, lives_on, lives_within, same_handle_is, same_place, started_opens}
use Rattle.register_law.proofs.TagsSent.{IsAnswer, PostsAre, none, answered, of_start, of_call, posts_are, call_sends}
use Rattle.register_law.proofs.MarksAre as marks
use Rattle.register_law.proofs.MarksAre.{MarksAre, marks_are, start_ticket, in_one, in_two, in_call_marks, in_start_marks, moved, other_call}
use Rattle.register_law.proofs.TagsCalls as calls

-- the message isn't one that the call of this tag sends now
pub data NotOwn (s : Store) (tag : Tag) (message : Message) : Type 0 where
  foreign : ((tag_of message).call ≡ tag.call → ⊥) → NotOwn s tag message
  no_request : request_key message ≡ None → NotOwn s tag message
  passed_on : (push : Message) → WasSent s push → (IsPushFree push → ⊥) → tag_of message ≡ tag_of push → (IsPushFree message → ⊥) → NotOwn s tag message

-- the call of this tag has no part in the event
pub record Apart (s : Store) (tag : Tag) (h : Happening) : Type 0 where
  pub posts : Each (NotOwn s tag) h.posts
  pub tickets : (stamp : Stamp) → Contains h.marks (k.Ticket tag.call stamp) → ⊥

-- what a proxy knows of a read's or a write's key, and of numbers, once it has learned what a message shows
abbrev pub view_by : Store → ℕ → Message → CallState → View
view_by s p message call = view_at (learned (proxy_at s p) message).views call.progress.key

abbrev pub seen_by : Store → ℕ → Message → ℕ
seen_by s p message = (learned (proxy_at s p) message).seen

pub data LiveAfter (s : Store) (h : Happening) (p : ℕ) (handle : Handle) (call : LiveCall) : Type 0 where
  stayed : IsLiveAt s p handle call → Apart s (tag_of_call call) h → LiveAfter s h p handle call
  begun : (key : KeyId) (work : Work) (st : Started s p key work h) → handle ≡ st.handle → call ≡ st.taken.state → LiveAfter s h p handle call
  went_on : (message : Message) (was : LiveCall) → CallTook s p message was h → handle ≡ handle_in message → call ≡ (taken_of s p message was).state → (taken_of s p message was).out.end ≡ None → LiveAfter s h p handle call

same_ticket : (call other : Call) (stamp drawn : Stamp) → k.Ticket call stamp ≡ k.Ticket other drawn → (drawn ≡ stamp) × (other ≡ call)
same_ticket call other stamp drawn e = (cc, cc)

-- the tickets of one call's step
pub tickets_in : (call other : Call) (o : Option Stamp) (e : Option Reply) (stamp : Stamp) → Contains (ticket_marks call o ++ end_marks call e) (k.Ticket other stamp) → (o ≡ Some stamp) × (call ≡ other)
tickets_in call other o e stamp c =
    in_call_marks ((o ≡ Some stamp) × (call ≡ other)) call o e (k.Ticket other stamp) (λ drawn is same. (let two = same_ticket other call stamp drawn same in (is ∙ ap Some two.0, two.1))) (λ reply is same. absurd (cc)) c

-- the tickets of a start
pub start_tickets : (call other : Call) (key : KeyId) (work : Work) (ticket stamp : Stamp) → Contains (k.Begin call key work ∷ starting.ticket_marks call ticket work) (k.Ticket other stamp) → (ticket ≡ stamp) × (call ≡ other)
start_tickets call other key work ticket stamp c =
    in_start_marks ((ticket ≡ stamp) × (call ≡ other)) call key work ticket (k.Ticket other stamp) (λ same. absurd (cc)) (λ same. same_ticket other call stamp ticket same) c

-- the next call isn't one that was begun
pub not_next : (s : Store) (at : ℕ) (call : Call) → call.seq ≤ (proxy_at s call.proxy).begun → next_call s at ≡ call → ⊥
not_next s at call le e =
    let k : (next_call s at).seq ≤ (proxy_at s (next_call s at).proxy).begun = subst (λ (c : Call). c.seq ≤ (proxy_at s c.proxy).begun) (sym e) le in
    omega (arith, k)

-- no call took a message at the event
abbrev NoCallPosts : (s : Store) (h : Happening) → PostsAre s h → Type 0
NoCallPosts s h (of_call p message call took is) = ⊥
NoCallPosts s h _ = Unit {0}

abbrev NoCallMarks : (s : Store) (h : Happening) → MarksAre s h → Type 0
NoCallMarks s h (marks.of_call p message call took is) = ⊥
NoCallMarks s h _ = Unit {0}

posts_apart : (s : Store) (h : Happening) (tag : Tag) → tag.call.seq ≤ (proxy_at s tag.call.proxy).begun → (a : PostsAre s h) → NoCallPosts s h a → Each (NotOwn s tag) h.posts
posts_apart s h tag le (none is) uncalled = subst (Each (NotOwn s tag)) (sym is) (each_none (NotOwn s tag))
posts_apart s h tag le (answered from sent all) uncalled = λ post c. by post.message (all post c)
  where
    by : (message : Message) → IsAnswer from message → NotOwn s tag message
    by message a = elim a.kind as (λ _. NotOwn s tag message) [ inl without ↦ no_request without | inr push ↦ passed_on from sent push.push a.tag push.is_push ]
posts_apart s h tag le (of_start p key work st is) uncalled = λ post c.
    foreign (λ same. not_next s p tag.call le (sym (ap (λ (t : Tag). t.call) ((started_opens s p key work h st).requests post (subst (λ (x : List Post). Contains x post) is c)).0) ∙ same))
posts_apart s h tag le (of_call p message call took is) uncalled = absurd uncalled

tickets_apart : (s : Store) (h : Happening) (tag : Tag) → tag.call.seq ≤ (proxy_at s tag.call.proxy).begun → (a : MarksAre s h) → NoCallMarks s h a → (stamp : Stamp) → Contains h.marks (k.Ticket tag.call stamp) → ⊥
tickets_apart s h tag le (marks.unmarked is) uncalled stamp c = none_among (k.Ticket tag.call stamp) (moved h.marks [] (k.Ticket tag.call stamp) is c)
tickets_apart s h tag le (marks.of_no_call mark nobody is) uncalled stamp c = in_one ⊥ mark (k.Ticket tag.call stamp) (λ same. other_call ⊥ (k.Ticket tag.call stamp) mark tag.call refl same nobody) (moved h.marks (mark ∷ []) (k.Ticket tag.call stamp) is c)
tickets_apart s h tag le (marks.of_refused p key work reply lt dead _ is) uncalled stamp c =
    in_two ⊥ (k.Begin (next_call s p) key work) (k.End (next_call s p) reply) (k.Ticket tag.call stamp) (λ same. cc) (λ same. cc) (moved h.marks _ (k.Ticket tag.call stamp) is c)
tickets_apart s h tag le (marks.of_start p key work st is) uncalled stamp c = not_next s p tag.call le (start_tickets (next_call s p) tag.call key work (start_ticket s p key) stamp (moved h.marks _ (k.Ticket tag.call stamp) is c)).1
tickets_apart s h tag le (marks.of_call p message call took is) uncalled stamp c = uncalled
tickets_apart s h tag le (marks.of_give_up p call given is) uncalled stamp c = in_one ⊥ _ (k.Ticket tag.call stamp) (λ same. cc) (moved h.marks _ (k.Ticket tag.call stamp) is c)

-- no call took the event's message
abbrev pub NoCall : (s : Store) (h : Happening) → Happened s h → Type 0
NoCall s h (call_took p message call took) = ⊥
NoCall s h _ = Unit {0}

no_posts : (s : Store) (h : Happening) (is : Happened s h) → NoCall s h is → NoCallPosts s h (posts_are s h is)
unfolding posts_are
no_posts s h (call_took p message call took) uncalled = uncalled
no_posts s h is uncalled = tt

no_marks : (s : Store) (h : Happening) (is : Happened s h) → NoCall s h is → NoCallMarks s h (marks_are s h is)
unfolding marks_are
no_marks s h (call_took p message call took) uncalled = uncalled
no_marks s h is uncalled = tt

-- a call that was begun has no part in an event at which no call took a message
pub uncalled_apart : (s : Store) (h : Happening) (tag : Tag) → tag.call.seq ≤ (proxy_at s tag.call.proxy).begun → (is : Happened s h) → NoCall s h is → Apart s tag h
uncalled_apart s h tag le is uncalled = record { posts = posts_apart s h tag le (posts_are s h is) (no_posts s h is uncalled); tickets = tickets_apart s h tag le (marks_are s h is) (no_marks s h is uncalled) }

-- what a call that takes a message posts and marks is nobody else's
pub took_apart : (s : Store) (h : Happening) (at : ℕ) (message : Message) (was : LiveCall) (tag : Tag) → h ≡ did s at (call_takes (learned (proxy_at s at) message) message was) → ((tag_of_call was).call ≡ tag.call → ⊥) → Apart s tag h
took_apart s h at message was tag is differ =
    let sends = call_sends s at message was in
    subst (λ (x : Happening). Apart s tag x) (sym is) (record {
      posts = λ post c. foreign (λ e. differ (sym (ap (λ (x : Tag). x.call) (ap tag_of (sends.copies post c) ∙ sends.tagged)) ∙ e));
      tickets = λ stamp c.
          (let z = tickets_in (tag_of message).call tag.call (taken_of s at message was).out.ticket (taken_of s at message was).out.end stamp c in
          differ (ap (λ (x : Tag). x.call) (take_ticket was message _ _ stamp z.0) ∙ z.1));
    })

-- ---- which calls live after an event: one that lived and had no part in it, the one that it began, or the one that took its message

-- a call that lived before and lives still, at an event in which a call took a message
by_took : (s : Store) (h : Happening) → TagsTellApart s → (at : ℕ) (message : Message) (was : LiveCall) → CallTook s at message was h → (p : ℕ) (handle : Handle) (call : LiveCall) → IsLiveAt s p handle call → IsLiveAt h.store p handle call → LiveAfter s h p handle call
by_took s h tags at message was took p handle call old now = by (at == p) refl (same_handle (handle_in message) handle) refl
  where
    apart : (at ≢ p) ⊎ (handle_in message ≢ handle) → LiveAfter s h p handle call
    apart differ = stayed old (took_apart s h at message was (tag_of_call call) took.is (λ e.
        (let place = same_place s tags at p (handle_in message) handle was call took.live old e in elim differ as (λ _. ⊥) [ inl d ↦ d place.0 | inr d ↦ d place.1 ])))

    on : at ≡ p → handle ≡ handle_in message → LiveAfter s h p handle call
    on same_p same =
        let there : IsLiveAt h.store at (handle_in message) call = subst (λ (n : ℕ). IsLiveAt h.store n (handle_in message) call) (sym same_p) (subst (λ (x : Handle). IsLiveAt h.store p x call) same now) in
        let goes = lives_on s h at message was call took (lives_within s tags at (handle_in message) was took.live) there in
        subst (λ (n : ℕ). LiveAfter s h n handle call) same_p (went_on message was took same goes.is goes.no_end)

    by : (a : Bool) → (at == p) ≡ a → (b : Bool) → same_handle (handle_in message) handle ≡ b → LiveAfter s h p handle call
    by false e b f = apart (inl (eqb-false at p e))
    by true e true f = on (eqb-true at p e) (same_handle_is (handle_in message) handle f)
    by true e false f = apart (inr (λ same. (let k : same_handle (handle_in message) handle ≡ true = subst (λ (x : Handle). same_handle (handle_in message) x ≡ true) same (is_itself (handle_in message).slot (handle_in message).generation) in cc)))

pub live_after : (s : Store) (h : Happening) → TagsTellApart s → Happened s h → (p : ℕ) (handle : Handle) (call : LiveCall) → IsLiveAt h.store p handle call → LiveAfter s h p handle call
live_after s h tags is p handle call now = by (calls.live_after s h is p handle call now)
  where
    kept : Happened s h → IsLiveAt s p handle call → LiveAfter s h p handle call
    kept (call_took at message was took) old = by_took s h tags at message was took p handle call old now
    kept other old = stayed old (uncalled_apart s h (tag_of_call call) (tags.live_numbered p handle call old).0.begun other tt)

    by : calls.LiveIs s h p handle call → LiveAfter s h p handle call
    by (calls.was_live old) = kept is old
    by (calls.begins key work st at new) = begun key work st at new
    by (calls.went_on message old took at new end) = went_on message old took at new end
