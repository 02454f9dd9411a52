-- Which marks an event has and whose they are: how a call begins, draws a ticket and ends in it.
use Rattle.std.proofs.Common.{◌≡◌, inl, inr, ℕ, ◌+◌, ◌<◌, Bool, true, false, List, [], ◌∷◌, ◌++◌, refl, sym, ap, ◌∙◌, subst, if◌then◌else◌, length, Option, Some, None, Contains}
use Rattle.register_law.proofs.Words.{Call, KeyId, Stamp, tag_of, Message, Reply, latest, after_take, Handle, call_of, is_dead, Mark, Work, tag_of_call, draws_ticket, ticket_of, Store, proxy_at, view_at, Happening, end_marks, ticket_marks, with_proxy, LiveCall, CallTook, Happened, Started, call_took, gave_up, next_call, not_published, published, refused_at_once, started, IsLiveAt, among, none_among}
use Rattle.wire_msg.specs.declared.outputs.Reply.TheVariants as r
use Rattle.run_marks.specs.declared.mark.Mark.TheVariants as k
use Rattle.world_core.specs.Starting as starting
use Rattle.register_law.proofs.TagsCalls.{taken_of}
use Rattle.register_law.proofs.Basics.{is_made}
use Rattle.std.proofs.lemmas.Option.{same_Some}

-- a call is given up, and lives no more
pub record GivenUp (s : Store) (p : ℕ) (call : LiveCall) (h : Happening) : Type 0 where
  pub handle : Handle
  pub live : IsLiveAt s p handle call
  pub after : h.store ≡ with_proxy s p (record (proxy_at s p) { calls = after_take (proxy_at s p).calls handle })

-- the ticket that a call draws at its start
abbrev pub start_ticket : Store → ℕ → KeyId → Stamp
start_ticket s p key = ticket_of (proxy_at s p) (view_at (proxy_at s p).views key) (next_call s p)

pub data MarksAre (s : Store) (h : Happening) : Type 0 where
  unmarked : h.marks ≡ [] → MarksAre s h
  of_no_call : (mark : Mark) → call_of mark ≡ None → h.marks ≡ mark ∷ [] → MarksAre s h
  of_refused : (p : ℕ) (key : KeyId) (work : Work) (reply : Reply) → p < length s.proxies → is_dead reply ≡ true → h.posts ≡ [] → h.marks ≡ k.Begin (next_call s p) key work ∷ k.End (next_call s p) reply ∷ [] → MarksAre s h
  of_start : (p : ℕ) (key : KeyId) (work : Work) → Started s p key work h → h.marks ≡ k.Begin (next_call s p) key work ∷ starting.ticket_marks (next_call s p) (start_ticket s p key) work → MarksAre s h
  of_call : (p : ℕ) (message : Message) (call : LiveCall) → CallTook s p message call h → h.marks ≡ ticket_marks (tag_of message).call (taken_of s p message call).out.ticket ++ end_marks (tag_of message).call (taken_of s p message call).out.end → MarksAre s h
  of_give_up : (p : ℕ) (call : LiveCall) → GivenUp s p call h → h.marks ≡ k.End (tag_of_call call).call r.GivenUp ∷ [] → MarksAre s h

unfoldable pub marks_are : (s : Store) (h : Happening) → Happened s h → MarksAre s h
marks_are s h (refused_at_once p key work reply lt dead is) = of_refused p key work reply lt dead (ap (λ (x : Happening). x.posts) is) (ap (λ (x : Happening). x.marks) is)
marks_are s h (started p key work st) = of_start p key work st (ap (λ (x : Happening). x.marks) st.is)
marks_are s h (call_took p message call took) = of_call p message call took (ap (λ (x : Happening). x.marks) took.is)
marks_are s h (gave_up p handle call live is) = of_give_up p call (record { handle = handle; live = live; after = ap (λ (x : Happening). x.store) is }) (ap (λ (x : Happening). x.marks) is)
marks_are s h (published table right is) = of_no_call (k.Epoch (latest s.directory + 1)) refl (ap (λ (x : Happening). x.marks) is)
marks_are s h (not_published cause is) = of_no_call (k.NoEpoch cause) refl (ap (λ (x : Happening). x.marks) is)
marks_are s h o = unmarked (ap (λ (x : Happening). x.marks) (is_made s h o))

-- of one mark, and of two
pub in_one : (X : Type 0) (mark e : Mark) → (e ≡ mark → X) → Contains (mark ∷ []) e → X
in_one X mark e f c = elim (among mark [] e c) as (λ _. X) [ inl is ↦ f is | inr more ↦ absurd (none_among e more) ]

pub in_two : (X : Type 0) (one two e : Mark) → (e ≡ one → X) → (e ≡ two → X) → Contains (one ∷ two ∷ []) e → X
in_two X one two e f g c = elim (among one (two ∷ []) e c) as (λ _. X) [ inl is ↦ f is | inr more ↦ in_one X two e g more ]

-- the marks of a call that takes a message
pub in_call_marks : (X : Type 0) (call : Call) (t : Option Stamp) (o : Option Reply) (e : Mark) → ((stamp : Stamp) → t ≡ Some stamp → e ≡ k.Ticket call stamp → X) → ((reply : Reply) → o ≡ Some reply → e ≡ k.End call reply → X)
    → Contains (ticket_marks call t ++ end_marks call o) e → X
in_call_marks X call None None e f g c = absurd (none_among e c)
in_call_marks X call None (Some reply) e f g c = in_one X (k.End call reply) e (g reply refl) c
in_call_marks X call (Some stamp) None e f g c = in_one X (k.Ticket call stamp) e (f stamp refl) c
in_call_marks X call (Some stamp) (Some reply) e f g c = in_two X (k.Ticket call stamp) (k.End call reply) e (f stamp refl) (g reply refl) c

-- the marks of a start
pub in_start_marks : (X : Type 0) (call : Call) (key : KeyId) (work : Work) (ticket : Stamp) (e : Mark) → (e ≡ k.Begin call key work → X) → (e ≡ k.Ticket call ticket → X) → Contains (k.Begin call key work ∷ starting.ticket_marks call ticket work) e → X
in_start_marks X call key work ticket e f g c =
    elim (among (k.Begin call key work) (starting.ticket_marks call ticket work) e c) as (λ _. X) [ inl is ↦ f is | inr more ↦ by (draws_ticket work) more ]
  where
    by : (b : Bool) → Contains (if b then k.Ticket call ticket ∷ [] else []) e → X
    by true more = in_one X (k.Ticket call ticket) e g more
    by false more = absurd (none_among e more)

pub moved : (xs ys : List Mark) (e : Mark) → xs ≡ ys → Contains xs e → Contains ys e
moved xs ys e is c = subst (λ (x : List Mark). Contains x e) is c

pub other_call : (X : Type 0) (e mark : Mark) (call : Call) → call_of e ≡ Some call → e ≡ mark → call_of mark ≡ None → X
other_call X e mark call of is none = absurd (let k : call_of mark ≡ Some call = ap call_of (sym is) ∙ of in cc)

-- ---- the table of the marks of an event: a row for each

-- the last mark of a list
abbrev pub last_mark : List Mark → Option Mark
last_mark [] = None
last_mark (mark ∷ []) = Some mark
last_mark (_ ∷ mark ∷ marks) = last_mark (mark ∷ marks)

-- a mark of an event, and where it comes from; an end is the last one
pub data MarkIs (s : Store) (h : Happening) : Mark → Type 0 where
  nobodys : (mark : Mark) → call_of mark ≡ None → MarkIs s h mark
  refused_begin : (p : ℕ) (key : KeyId) (work : Work) (reply : Reply) → h.marks ≡ k.Begin (next_call s p) key work ∷ k.End (next_call s p) reply ∷ [] → MarkIs s h (k.Begin (next_call s p) key work)
  refused_end : (p : ℕ) (key : KeyId) (work : Work) (reply : Reply) → p < length s.proxies → is_dead reply ≡ true → h.posts ≡ [] → h.marks ≡ k.Begin (next_call s p) key work ∷ k.End (next_call s p) reply ∷ [] → MarkIs s h (k.End (next_call s p) reply)
  started_begin : (p : ℕ) (key : KeyId) (work : Work) → Started s p key work h → h.marks ≡ k.Begin (next_call s p) key work ∷ starting.ticket_marks (next_call s p) (start_ticket s p key) work → MarkIs s h (k.Begin (next_call s p) key work)
  started_ticket : (p : ℕ) (key : KeyId) (work : Work) → h.marks ≡ k.Begin (next_call s p) key work ∷ starting.ticket_marks (next_call s p) (start_ticket s p key) work → MarkIs s h (k.Ticket (next_call s p) (start_ticket s p key))
  call_ticket : (p : ℕ) (message : Message) (live : LiveCall) (stamp : Stamp) → CallTook s p message live h → (taken_of s p message live).out.ticket ≡ Some stamp → MarkIs s h (k.Ticket (tag_of message).call stamp)
  call_end : (p : ℕ) (message : Message) (live : LiveCall) (reply : Reply) → CallTook s p message live h → (taken_of s p message live).out.end ≡ Some reply → MarkIs s h (k.End (tag_of message).call reply)
  given_end : (p : ℕ) (live : LiveCall) → GivenUp s p live h → h.marks ≡ k.End (tag_of_call live).call r.GivenUp ∷ [] → MarkIs s h (k.End (tag_of_call live).call r.GivenUp)

row_of : (s : Store) (h : Happening) (mark e : Mark) → MarkIs s h mark → e ≡ mark → MarkIs s h e
row_of s h mark e row same = subst (MarkIs s h) (sym same) row

pub mark_is : (s : Store) (h : Happening) → MarksAre s h → (e : Mark) → Contains h.marks e → MarkIs s h e
mark_is s h (unmarked is) e c = absurd (none_among e (moved h.marks [] e is c))
mark_is s h (of_no_call mark none is) e c = in_one (MarkIs s h e) mark e (row_of s h mark e (nobodys mark none)) (moved h.marks (mark ∷ []) e is c)
mark_is s h (of_refused p key work reply lt dead posts is) e c =
    in_two (MarkIs s h e) (k.Begin (next_call s p) key work) (k.End (next_call s p) reply) e (row_of s h _ e (refused_begin p key work reply is)) (row_of s h _ e (refused_end p key work reply lt dead posts is)) (moved h.marks _ e is c)
mark_is s h (of_start p key work st is) e c =
    in_start_marks (MarkIs s h e) (next_call s p) key work (start_ticket s p key) e (row_of s h _ e (started_begin p key work st is)) (row_of s h _ e (started_ticket p key work is)) (moved h.marks _ e is c)
mark_is s h (of_call p message live took is) e c =
    in_call_marks (MarkIs s h e) (tag_of message).call (taken_of s p message live).out.ticket (taken_of s p message live).out.end e
    (λ stamp draws. row_of s h _ e (call_ticket p message live stamp took draws)) (λ reply ends. row_of s h _ e (call_end p message live reply took ends)) (moved h.marks _ e is c)
mark_is s h (of_give_up p live given is) e c = in_one (MarkIs s h e) (k.End (tag_of_call live).call r.GivenUp) e (row_of s h _ e (given_end p live given is)) (moved h.marks _ e is c)

-- ---- whose each mark is, and how a call begins, draws a ticket and ends in an event

-- whose mark a mark of an event is
pub data MarkOf (s : Store) (h : Happening) (call : Call) : Type 0 where
  begins_now : (key : KeyId) (work : Work) (rest : List Mark) → h.marks ≡ k.Begin call key work ∷ rest → MarkOf s h call
  takes_now : (p : ℕ) (message : Message) (live : LiveCall) → CallTook s p message live h → (tag_of message).call ≡ call → MarkOf s h call
  gives_up : (p : ℕ) (live : LiveCall) → GivenUp s p live h → (tag_of_call live).call ≡ call → MarkOf s h call

pub mark_of : (s : Store) (h : Happening) → MarksAre s h → (e : Mark) (call : Call) → call_of e ≡ Some call → Contains h.marks e → MarkOf s h call
mark_of s h are e call of c = by e (mark_is s h are e c) of
  where
    by : (mark : Mark) → MarkIs s h mark → call_of mark ≡ Some call → MarkOf s h call
    by mark (nobodys _ none) of = absurd (cc)
    by mark (refused_begin p key work reply is) of = subst (MarkOf s h) (same_Some (next_call s p) call of) (begins_now key work _ is)
    by mark (refused_end p key work reply _ _ _ is) of = subst (MarkOf s h) (same_Some (next_call s p) call of) (begins_now key work _ is)
    by mark (started_begin p key work st is) of = subst (MarkOf s h) (same_Some (next_call s p) call of) (begins_now key work _ is)
    by mark (started_ticket p key work is) of = subst (MarkOf s h) (same_Some (next_call s p) call of) (begins_now key work _ is)
    by mark (call_ticket p message live stamp took _) of = takes_now p message live took (same_Some (tag_of message).call call of)
    by mark (call_end p message live reply took _) of = takes_now p message live took (same_Some (tag_of message).call call of)
    by mark (given_end p live given _) of = gives_up p live given (same_Some (tag_of_call live).call call of)

-- nothing in the list begins a call
abbrev pub BeginsNone : List Mark → Type 0
BeginsNone marks = (call : Call) (key : KeyId) (work : Work) → Contains marks (k.Begin call key work) → ⊥

pub end_begins : (call : Call) (reply : Reply) → BeginsNone (k.End call reply ∷ [])
end_begins other reply call key work c = in_one ⊥ (k.End other reply) (k.Begin call key work) (λ is. cc) c

pub ticket_begins : (call : Call) (ticket : Stamp) (b : Bool) → BeginsNone (if b then k.Ticket call ticket ∷ [] else [])
ticket_begins other ticket true call key work c = in_one ⊥ (k.Ticket other ticket) (k.Begin call key work) (λ is. cc) c
ticket_begins other ticket false call key work c = none_among (k.Begin call key work) c

-- a call's ticket in an event
pub data TicketIs (s : Store) (h : Happening) (call : Call) (stamp : Stamp) : Type 0 where
  drawn_first : (p : ℕ) (key : KeyId) → call ≡ next_call s p → stamp ≡ start_ticket s p key → TicketIs s h call stamp
  drawn_later : (p : ℕ) (message : Message) (live : LiveCall) → CallTook s p message live h → (tag_of message).call ≡ call → (taken_of s p message live).out.ticket ≡ Some stamp → TicketIs s h call stamp

pub ticket_is : (s : Store) (h : Happening) → MarksAre s h → (call : Call) (stamp : Stamp) → Contains h.marks (k.Ticket call stamp) → TicketIs s h call stamp
ticket_is s h are call stamp c = by call stamp (mark_is s h are (k.Ticket call stamp) c)
  where
    by : (whose : Call) (drawn : Stamp) → MarkIs s h (k.Ticket whose drawn) → TicketIs s h whose drawn
    by whose drawn (nobodys _ none) = absurd (cc)
    by whose drawn (started_ticket p key _ _) = drawn_first p key refl refl
    by whose drawn (call_ticket p message live _ took draws) = drawn_later p message live took refl draws

-- how a call ends in an event
pub data EndIs (s : Store) (h : Happening) (call : Call) (reply : Reply) : Type 0 where
  at_once : (p : ℕ) (key : KeyId) (work : Work) → p < length s.proxies → call ≡ next_call s p → is_dead reply ≡ true → h.posts ≡ [] → h.marks ≡ k.Begin call key work ∷ k.End call reply ∷ [] → EndIs s h call reply
  by_message : (p : ℕ) (message : Message) (live : LiveCall) → CallTook s p message live h → (tag_of message).call ≡ call → (taken_of s p message live).out.end ≡ Some reply → EndIs s h call reply
  by_hand : (p : ℕ) (live : LiveCall) → GivenUp s p live h → (tag_of_call live).call ≡ call → reply ≡ r.GivenUp → EndIs s h call reply

pub end_is : (s : Store) (h : Happening) → MarksAre s h → (call : Call) (reply : Reply) → Contains h.marks (k.End call reply) → EndIs s h call reply
end_is s h are call reply c = by call reply (mark_is s h are (k.End call reply) c)
  where
    by : (whose : Call) (given : Reply) → MarkIs s h (k.End whose given) → EndIs s h whose given
    by whose given (nobodys _ none) = absurd (cc)
    by whose given (refused_end p key work _ lt dead posts is) = at_once p key work lt refl dead posts is
    by whose given (call_end p message live _ took ends) = by_message p message live took refl ends
    by whose given (given_end p live up _) = by_hand p live up refl refl

-- an end stands last, so an event has one at most
ends_last : (s : Store) (h : Happening) (call : Call) (reply : Reply) → MarkIs s h (k.End call reply) → last_mark h.marks ≡ Some (k.End call reply)
ends_last s h call reply (nobodys _ none) = absurd (cc)
ends_last s h call reply (refused_end p key work _ _ _ _ is) = ap last_mark is
ends_last s h call reply (call_end p message live _ took ends) =
    ap (λ (x : Happening). last_mark x.marks) took.is ∙ ap (λ (o : Option Reply). last_mark (ticket_marks (tag_of message).call (taken_of s p message live).out.ticket ++ end_marks (tag_of message).call o)) ends
    ∙ behind_ticket (taken_of s p message live).out.ticket
  where
    behind_ticket : (o : Option Stamp) → last_mark (ticket_marks (tag_of message).call o ++ k.End (tag_of message).call reply ∷ []) ≡ Some (k.End (tag_of message).call reply)
    behind_ticket None = refl
    behind_ticket (Some stamp) = refl
ends_last s h call reply (given_end p live _ is) = ap last_mark is

pub one_end : (s : Store) (h : Happening) → MarksAre s h → (call other : Call) (one two : Reply) → Contains h.marks (k.End call one) → Contains h.marks (k.End other two) → one ≡ two
one_end s h are call other one two a b =
    let same : Some (k.End call one) ≡ Some (k.End other two) = sym (ends_last s h call one (mark_is s h are (k.End call one) a)) ∙ ends_last s h other two (mark_is s h are (k.End other two) b) in
    cc
