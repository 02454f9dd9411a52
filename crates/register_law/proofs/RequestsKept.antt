-- Every event keeps it that each phase of a call of a strong key has one request, of a call that was begun.
use Rattle.std.proofs.Common.{◌≡◌, ℕ, ◌+◌, ◌≤◌, Bool, true, List, ◌∷◌, sym, ap, ◌∙◌, subst, arith, Some, None, IsSome, ◌⊎◌, inl, inr, Contains}
use Rattle.std.proofs.lemmas.Option.{same_Some}
use Rattle.register_law.proofs.Words.{Call, KeyId, Mark, Work, Store, proxy_at, Happening, fits_mode, Happened, next_call, Ghost, noted_of, RequestsAreOne, tag_of, Message, Post, Tag, Handle, key_of_call, tag_of_call, ticket_of, view_at, handle_in, is_strong_key, LiveCall, Started, WasSent, IsPushFree, IsSamePoint, TagsTellApart, request_key, none_among}
use Rattle.run_marks.specs.declared.mark.Mark.TheVariants as k
use Rattle.world_core.specs.Starting.{ticket_marks as begin_marks}
use Rattle.register_law.proofs.Growth.{calls_grow}
use Rattle.register_law.proofs.Basics.{sent_or_posted, flipped}
use Rattle.register_law.proofs.TagsCalls.{LiveFrom, older, newer, live_from, next_is_none, started_opens, start_is_fresh, phase_is_fresh}
use Rattle.register_law.proofs.TagsSent.{IsAnswer, IsPushedOn, PostsAre, none, answered, of_start, of_call, posts_are, Posted, replies, opens, asks, posted, sent_after, call_sends}
use Rattle.register_law.proofs.BegunCalls.{BegunIs, begun_is, begun_noted, strong_noted, begun_some_stays, begins_next, begun_before, begun_now}

-- what holds before the event
pub record Before (key : KeyId) (s : Store) (g : Ghost) : Type 0 where
  pub tags : TagsTellApart s
  pub requests : RequestsAreOne key s g
  pub strong : is_strong_key s key ≡ true

-- a message that is passed on is of no strong key
pub none_passed : (X : Type 0) (key : KeyId) (s : Store) (g : Ghost) (from message : Message) → Before key s g → WasSent s from → request_key message ≡ Some key → IsPushedOn from message → X
none_passed X key s g from message b sent at on = absurd (on.push (b.requests.no_push from sent (sym on.same_key ∙ at)))

-- an answer is no request of the key
pub no_answer_asks : (X : Type 0) (key : KeyId) (s : Store) (g : Ghost) (from message : Message) → Before key s g → WasSent s from → request_key message ≡ Some key → IsAnswer from message → X
no_answer_asks X key s g from message b sent at answer = by answer.kind
  where
    by : (request_key message ≡ None) ⊎ IsPushedOn from message → X
    by (inl is) = absurd (cc)
    by (inr on) = none_passed X key s g from message b sent at on

-- where a call on the key begins
pub start_key : (key : KeyId) (s : Store) (g : Ghost) (h : Happening) (p : ℕ) (at : KeyId) (work : Work) → Before key s g → Started s p at work h → (view_at (proxy_at s p).views at).key ≡ key → at ≡ key
start_key key s g h p at work b st is = sym (b.tags.view_keys p at st.exists st.known) ∙ is

pub start_strong : (key : KeyId) (s : Store) (g : Ghost) (h : Happening) (p : ℕ) (at : KeyId) (work : Work) → Before key s g → Started s p at work h → (view_at (proxy_at s p).views at).key ≡ key → is_strong_key s at ≡ true
start_strong key s g h p at work b st is = subst (λ (x : KeyId). is_strong_key s x ≡ true) (sym (start_key key s g h p at work b st is)) b.strong

-- no push of the key is sent
pushes_none : (key : KeyId) (s : Store) (g : Ghost) (h : Happening) (message : Message) → Before key s g → request_key message ≡ Some key → Posted s h message → IsPushFree message
pushes_none key s g h message b at (replies from sent answer) = no_answer_asks (IsPushFree message) key s g from message b sent at answer
pushes_none key s g h message b at (opens p k work st tag is free) = free (start_strong key s g h p k work b st (same_Some (view_at (proxy_at s p).views k).key key (sym is ∙ at)))
pushes_none key s g h message b at (asks p taken call post took tag is free c) = free

-- the call that begins on the key is noted
start_noted : (key : KeyId) (s : Store) (g : Ghost) (h : Happening) (p : ℕ) (at : KeyId) (work : Work) → Before key s g → Started s p at work h → (view_at (proxy_at s p).views at).key ≡ key → IsSome ((noted_of key s h g).begun (next_call s p))
start_noted key s g h p at work b st is =
    let same = start_key key s g h p at work b st is in
    let strong = start_strong key s g h p at work b st is in
    let fits : fits_mode true work ≡ true = subst (λ (x : Bool). fits_mode x work ≡ true) strong st.fits in
    let rest : List Mark = begin_marks (next_call s p) (ticket_of (proxy_at s p) (view_at (proxy_at s p).views at) (next_call s p)) work in
    let marks : h.marks ≡ k.Begin (next_call s p) at work ∷ rest = ap (λ (x : Happening). x.marks) st.is in
    begun_noted key s g h (next_call s p) work rest (strong_noted work fits) (marks ∙ ap (λ (x : KeyId). k.Begin (next_call s p) x work ∷ rest) same)

begun_posted : (key : KeyId) (s : Store) (g : Ghost) (h : Happening) → Happened s h → (message : Message) → Before key s g → request_key message ≡ Some key → Posted s h message → IsSome ((noted_of key s h g).begun (tag_of message).call)
begun_posted key s g h is message b at (replies from sent answer) = no_answer_asks (IsSome ((noted_of key s h g).begun (tag_of message).call)) key s g from message b sent at answer
begun_posted key s g h is message b at (opens p k work st tag of free) =
    subst (λ (t : Tag). IsSome ((noted_of key s h g).begun t.call)) (sym tag) (start_noted key s g h p k work b st (same_Some (view_at (proxy_at s p).views k).key key (sym of ∙ at)))
begun_posted key s g h is message b at (asks p taken call post took tag of free c) =
    subst (λ (t : Tag). IsSome ((noted_of key s h g).begun t.call)) (sym tag)
    (begun_some_stays key s g h is b.requests (tag_of_call call).call (b.requests.live_begun p (handle_in taken) call took.live (same_Some (key_of_call call) key (sym of ∙ at))))

pub request_begun_after : (key : KeyId) (s : Store) (g : Ghost) (h : Happening) → Happened s h → Before key s g → (request : Message) → WasSent h.store request → request_key request ≡ Some key → IsSome ((noted_of key s h g).begun (tag_of request).call)
request_begun_after key s g h is b request sent at =
    elim (sent_after s h is request sent) as (λ _. IsSome ((noted_of key s h g).begun (tag_of request).call)) [
      | inl old ↦ begun_some_stays key s g h is b.requests (tag_of request).call (b.requests.request_begun request old at)
      | inr new ↦ begun_posted key s g h is request b at new
    ]

-- a call that lives on the key was begun
live_begun_by : (key : KeyId) (s : Store) (g : Ghost) (h : Happening) → Happened s h → Before key s g → (p : ℕ) (handle : Handle) (call : LiveCall) → key_of_call call ≡ key → LiveFrom s h p handle call → IsSome ((noted_of key s h g).begun (tag_of_call call).call)
live_begun_by key s g h is b p handle call at (older old live same of phase) =
    subst (λ (x : Call). IsSome ((noted_of key s h g).begun x)) (sym same) (begun_some_stays key s g h is b.requests (tag_of_call old).call (b.requests.live_begun p handle old live (sym of ∙ at)))
live_begun_by key s g h is b p handle call at (newer k work st free tag keyed) =
    subst (λ (t : Tag). IsSome ((noted_of key s h g).begun t.call)) (sym tag) (start_noted key s g h p k work b st (sym keyed ∙ at))

-- the mark that begins a call on the key
started_key : (key at : KeyId) (s : Store) (p : ℕ) (h : Happening) (work other : Work) (call : Call) (rest : List Mark) → Started s p at work h → h.marks ≡ k.Begin call key other ∷ rest → at ≡ key
started_key key at s p h work other call rest st e =
    let first : k.Begin (next_call s p) at work ∷ _ ≡ k.Begin call key other ∷ rest = sym (ap (λ (x : Happening). x.marks) st.is) ∙ e in
    cc

begun_live_by : (key : KeyId) (s : Store) (g : Ghost) (h : Happening) → Happened s h → Before key s g → (p : ℕ) (handle : Handle) (call : LiveCall) → LiveFrom s h p handle call → BegunIs key g h.marks (tag_of_call call).call → key_of_call call ≡ key
begun_live_by key s g h is b p handle call (older old live same of phase) (begun_before some) = of ∙ b.requests.begun_live p handle old live (subst (λ (x : Call). IsSome (g.begun x)) same some)
begun_live_by key s g h is b p handle call (older old live same of phase) (begun_now work rest marks) =
    let next = begins_next s h is (tag_of_call call).call key work rest marks in
    absurd (next_is_none s (tag_of_call call).call.proxy (tag_of_call old) (tag_of_call call).call (b.tags.live_numbered p handle old live).0 (sym same) next.next)
begun_live_by key s g h is b p handle call (newer k work st free tag keyed) (begun_before some) =
    let counted = (b.requests.begun_numbered (next_call s p) (subst (λ (t : Tag). IsSome (g.begun t.call)) tag some)).1 in
    absurd (omega arith)
begun_live_by key s g h is b p handle call (newer k work st free tag keyed) (begun_now other rest marks) =
    let same = started_key key k s p h work other (tag_of_call call).call rest st marks in
    keyed ∙ b.tags.view_keys p k st.exists st.known ∙ same

begun_numbered_by : (key : KeyId) (s : Store) (g : Ghost) (h : Happening) → Happened s h → Before key s g → (call : Call) → BegunIs key g h.marks call → (1 ≤ call.seq) × (call.seq ≤ (proxy_at h.store call.proxy).begun)
begun_numbered_by key s g h is b call (begun_before some) =
    let two = b.requests.begun_numbered call some in
    let least = two.0 in
    let most = two.1 in
    let grows = calls_grow s h is call.proxy in
    (omega arith, omega arith)
begun_numbered_by key s g h is b call (begun_now work rest marks) =
    let next = begins_next s h is call key work rest marks in
    let seq : call.seq ≡ (proxy_at s call.proxy).begun + 1 = ap (λ (c : Call). c.seq) next.next in
    let counted = next.counted in
    (omega arith, omega arith)

-- of two messages that an event sends
new_and_new : (key : KeyId) (s : Store) (g : Ghost) (h : Happening) (a c : Post) → Before key s g → PostsAre s h → Contains h.posts a → Contains h.posts c → request_key a.message ≡ Some key → a.message ≡ c.message
new_and_new key s g h a c b (none e) ca cc' at = absurd (none_among a (subst (λ (x : List Post). Contains x a) e ca))
new_and_new key s g h a c b (answered from sent all) ca cc' at = no_answer_asks (a.message ≡ c.message) key s g from a.message b sent at (all a ca)
new_and_new key s g h a c b (of_start p k work st e) ca cc' at =
    let first = started_opens s p k work h st in
    let there = subst (λ (x : List Post). Contains x a) e ca in
    let keyed : (view_at (proxy_at s p).views k).key ≡ key = same_Some (view_at (proxy_at s p).views k).key key (sym (first.requests a there).1 ∙ at) in
    let one = first.one (start_strong key s g h p k work b st keyed) in
    one.copies a there ∙ sym (one.copies c (subst (λ (x : List Post). Contains x c) e cc'))
new_and_new key s g h a c b (of_call p message call took e) ca cc' at =
    let one = call_sends s p message call in
    one.copies a (subst (λ (x : List Post). Contains x a) e ca) ∙ sym (one.copies c (subst (λ (x : List Post). Contains x c) e cc'))

-- a message of the key that an event sends is of a phase in which nothing was sent
pub fresh_request : (key : KeyId) (s : Store) (g : Ghost) (h : Happening) (message old : Message) → Before key s g → Posted s h message → request_key message ≡ Some key → WasSent s old → IsSamePoint (tag_of old) (tag_of message) → ⊥
fresh_request key s g h message old b (replies from sent answer) at was same = no_answer_asks ⊥ key s g from message b sent at answer
fresh_request key s g h message old b (opens p k work st tag of free) at was same = start_is_fresh s p st.handle b.tags old was (subst (IsSamePoint (tag_of old)) tag same)
fresh_request key s g h message old b (asks p taken call post took tag of free c) at was same = phase_is_fresh s p (handle_in taken) call b.tags took.live old was (subst (IsSamePoint (tag_of old)) tag same)

-- a request that was sent, and one that an event sends
old_and_new : (key : KeyId) (s : Store) (g : Ghost) (h : Happening) (a message : Message) → Before key s g → Posted s h message → WasSent s a → request_key a ≡ Some key → IsSome (request_key message) → IsSamePoint (tag_of a) (tag_of message) → a ≡ message
old_and_new key s g h a message b (replies from sent answer) was at some same = by answer.kind
  where
    as_from : a ≡ from
    as_from = b.requests.one_request a from was sent at answer.asked (subst (IsSamePoint (tag_of a)) answer.tag same)

    by : (request_key message ≡ None) ⊎ IsPushedOn from message → a ≡ message
    by (inl is) = absurd (cc)
    by (inr on) = absurd (on.push (b.requests.no_push from sent (subst (λ (x : Message). request_key x ≡ Some key) as_from at)))
old_and_new key s g h a message b (opens p k work st tag of free) was at some same = absurd (start_is_fresh s p st.handle b.tags a was (subst (IsSamePoint (tag_of a)) tag same))
old_and_new key s g h a message b (asks p taken call post took tag of free c) was at some same = absurd (phase_is_fresh s p (handle_in taken) call b.tags took.live a was (subst (IsSamePoint (tag_of a)) tag same))

one_request_after : (key : KeyId) (s : Store) (g : Ghost) (h : Happening) → Happened s h → Before key s g → (a c : Message) → WasSent h.store a → WasSent h.store c → request_key a ≡ Some key → IsSome (request_key c) → IsSamePoint (tag_of a) (tag_of c) → a ≡ c
one_request_after key s g h is b a c sa sc at some same = by (sent_or_posted s h is pa sa.1) (sent_or_posted s h is pc sc.1)
  where
    pa : Post
    pa = record { to = sa.0; message = a }

    pc : Post
    pc = record { to = sc.0; message = c }

    by : Contains s.sent pa ⊎ Contains h.posts pa → Contains s.sent pc ⊎ Contains h.posts pc → a ≡ c
    by (inl x) (inl y) = b.requests.one_request a c (sa.0, x) (sc.0, y) at some same
    by (inl x) (inr y) = old_and_new key s g h a c b (posted s h is pc y) (sa.0, x) at some same
    by (inr x) (inl y) = absurd (fresh_request key s g h a c b (posted s h is pa x) at (sc.0, y) (flipped (tag_of a) (tag_of c) same))
    by (inr x) (inr y) = new_and_new key s g h pa pc b (posts_are s h is) x y at

pub requests_kept : (key : KeyId) (s : Store) (g : Ghost) (h : Happening) → Happened s h → Before key s g → RequestsAreOne key h.store (noted_of key s h g)
requests_kept key s g h is b = record {
  one_request = one_request_after key s g h is b;
  request_begun = request_begun_after key s g h is b;
  no_push = λ message sent at.
      elim (sent_after s h is message sent) as (λ _. IsPushFree message) [
        | inl old ↦ b.requests.no_push message old at
        | inr new ↦ pushes_none key s g h message b at new
      ];
  live_begun = λ p handle call live at. live_begun_by key s g h is b p handle call at (live_from s h is p handle call live);
  begun_live = λ p handle call live some. begun_live_by key s g h is b p handle call (live_from s h is p handle call live) (begun_is key s g h (tag_of_call call).call some);
  begun_numbered = λ call some. begun_numbered_by key s g h is b call (begun_is key s g h call some);
}
