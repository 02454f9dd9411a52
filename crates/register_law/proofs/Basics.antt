-- Small facts on tests, options, names and tags; what an event made and sent, and what holds of each message of a list.
use Rattle.std.proofs.Common.{◌≡◌, ℕ, true, arith, ap, ◌<◌, false, Bool, refl, ◌∙◌, ◌+◌, List, [], ◌∷◌, ◌++◌, sym, if◌then◌else◌, ◌==◌, nat_lt, not, Option, Some, None, IsSome, map, ◌&&◌, ◌⊎◌, subst, inl, inr, Contains, eqb-true}
use Rattle.std.proofs.lemmas.Bool.{eqb-true, eq-eqb}
use Rattle.register_law.proofs.Words.{is_register_work, Work, is_noted, KeyId, Stamp, Begun, Tag, IsSamePoint, common_steps, Post, Store, Happening, Happened, call_took, directory_took, proxy_learned, refused_at_once, replica_took, started, centres_of, DcSet, Actor, Message, post_to, posts_to, WasSent, Contains-append_left, Contains-append_cases, append-nil, among, latest, after_publish, after_take, tag_of_call, learned, ends_at_once, enters, proxy_at, replica_at, call_takes, only_learns, with_proxy, with_replica, did, gave_up, ignored, next_call, not_published, proxy_stopped, published, quietly, replica_stopped, view_at, and_left, and_right}
use Rattle.run_marks.specs.declared.mark.Work.TheVariants as w
use Rattle.wire_msg.specs.declared.outputs.Reply.TheVariants as r
use Rattle.run_marks.specs.declared.mark.Mark.TheVariants as k
use Rattle.wire_msg.specs.declared.actor.Actor.TheVariants as to
use Rattle.wire_msg.specs.declared.message.Message.TheVariants as m
use Rattle.replica_core.specs.Rule as replica
use Rattle.epoch_directory.specs.Step as directory_step
use Rattle.world_core.specs.Starting.{ticket_of}
use Rattle.world_core.specs.Step.{with_sent}

pub key_is : (a b : KeyId) → (a.0 == b.0) ≡ true → a ≡ b
key_is a b h = ap (λ n. let x : KeyId = record { 0 = n } in x) (eqb-true a.0 b.0 h)

pub within_is : (a b : ℕ) → not (nat_lt a b) ≡ false → a < b
within_is a b h = grind (arith, common_steps)

pub not_false : (b : Bool) → not b ≡ false → b ≡ true
not_false true h = refl
not_false false h = absurd (cc)

pub no_ticket : (o : Option Stamp) (stamp : Stamp) (X : Type 0) → o ≡ None → o ≡ Some stamp → X
no_ticket o stamp X e h = absurd (cc)

pub some_begun : (o : Option Begun) → IsSome o → (b : Begun) × (o ≡ Some b)
some_begun None h = absurd (cc)
some_begun (Some b) h = (b, refl)

pub is_some_of : (o : Option Begun) (b : Begun) → o ≡ Some b → IsSome o
is_some_of None b e = absurd (cc)
is_some_of (Some x) b e = refl

-- of two things one
pub either : {X : Type 0} → (P : X → Type 0) (b : Bool) (one other : X) → P one → P other → P (if b then one else other)
either {X} P true one other p q = p
either {X} P false one other p q = q

-- what reads or writes as a register is noted
pub register_noted : (work : Work) → is_register_work work ≡ true → is_noted work ≡ true
register_noted w.Read h = refl
register_noted work h = cc

-- ---- tests that say that two keys or calls are one, and tags of one phase of one call

-- both tests say so
pub both_equal : (a b c d : ℕ) → ((a == b) && (c == d)) ≡ true → (a ≡ b) × (c ≡ d)
both_equal a b c d h = (eqb-true a b (and_left (a == b) (c == d) h), eqb-true c d (and_right (a == b) (c == d) h))

pub is_itself : (a b : ℕ) → ((a == a) && (b == b)) ≡ true
is_itself a b = rw (eq-eqb a a refl, eq-eqb b b refl) refl

pub point_of : (a b : Tag) → a ≡ b → IsSamePoint a b
point_of a b e = record { call = ap (λ (t : Tag). t.call) e; phase = ap (λ (t : Tag). t.phase) e }

pub flipped : (a b : Tag) → IsSamePoint a b → IsSamePoint b a
flipped a b same = record { call = sym same.call; phase = sym same.phase }

pub joined : (a b c : Tag) → IsSamePoint a b → IsSamePoint b c → IsSamePoint a c
joined a b c one two = record { call = one.call ∙ two.call; phase = one.phase ∙ two.phase }

-- ---- what an event made, by what it was: the one equation that every case has

abbrev pub made : (s : Store) (h : Happening) → Happened s h → Happening
made s h (ignored is) = quietly s
made s h (replica_stopped d is) = quietly (with_replica s d (record { stopped = true; state = (replica_at s d).state }))
made s h (proxy_stopped p is) = quietly (with_proxy s p (record (proxy_at s p) { stopped = true }))
made s h (refused_at_once p key work reply lt dead is) = did s p (ends_at_once (proxy_at s p) (next_call s p) key work reply)
made s h (started p key work st) = did s p (enters (proxy_at s p) (next_call s p) st.handle key work (ticket_of (proxy_at s p) (view_at (proxy_at s p).views key) (next_call s p)) st.taken)
made s h (replica_took d message taken is) =
    with_sent (with_replica s d (record { stopped = false; state = (replica.step (replica_at s d).state message).state })) (replica.step (replica_at s d).state message).out.posts []
made s h (directory_took message sent is) = with_sent (record s { directory = (directory_step.step s.directory message).state }) (directory_step.step s.directory message).out.posts []
made s h (proxy_learned p message sent is) = did s p (only_learns (learned (proxy_at s p) message))
made s h (call_took p message call took) = did s p (call_takes (learned (proxy_at s p) message) message call)
made s h (gave_up p handle call live is) = record { store = with_proxy s p (record (proxy_at s p) { calls = after_take (proxy_at s p).calls handle }); marks = k.End (tag_of_call call).call r.GivenUp ∷ []; posts = [] }
made s h (published table right is) = record { store = record s { directory = after_publish s.directory table }; marks = k.Epoch (latest s.directory + 1) ∷ []; posts = [] }
made s h (not_published cause is) = record { store = s; marks = k.NoEpoch cause ∷ []; posts = [] }

abbrev pub is_made : (s : Store) (h : Happening) (o : Happened s h) → h ≡ made s h o
is_made s h (ignored is) = is
is_made s h (replica_stopped d is) = is
is_made s h (proxy_stopped p is) = is
is_made s h (refused_at_once p key work reply lt dead is) = is
is_made s h (started p key work st) = st.is
is_made s h (replica_took d message taken is) = is
is_made s h (directory_took message sent is) = is
is_made s h (proxy_learned p message sent is) = is
is_made s h (call_took p message call took) = took.is
is_made s h (gave_up p handle call live is) = is
is_made s h (published table right is) = is
is_made s h (not_published cause is) = is

-- ---- what was sent after an event, and what holds of each message of a list

-- the messages of an event stand behind those that were sent before
pub sent_behind : (s : Store) (h : Happening) → Happened s h → h.store.sent ≡ s.sent ++ h.posts
sent_behind s h (refused_at_once p key work reply lt dead is) = subst (λ (x : Happening). x.store.sent ≡ s.sent ++ x.posts) (sym is) refl
sent_behind s h (started p key work st) = subst (λ (x : Happening). x.store.sent ≡ s.sent ++ x.posts) (sym st.is) refl
sent_behind s h (replica_took d message sent is) = subst (λ (x : Happening). x.store.sent ≡ s.sent ++ x.posts) (sym is) refl
sent_behind s h (directory_took message sent is) = subst (λ (x : Happening). x.store.sent ≡ s.sent ++ x.posts) (sym is) refl
sent_behind s h (proxy_learned p message sent is) = subst (λ (x : Happening). x.store.sent ≡ s.sent ++ x.posts) (sym is) refl
sent_behind s h (call_took p message call st) = subst (λ (x : Happening). x.store.sent ≡ s.sent ++ x.posts) (sym st.is) refl
sent_behind s h o = subst (λ (x : Happening). x.store.sent ≡ s.sent ++ x.posts) (sym (is_made s h o)) (sym (append-nil s.sent))

pub sent_grows : (s : Store) (h : Happening) → Happened s h → (post : Post) → Contains s.sent post → Contains h.store.sent post
sent_grows s h is post c = subst (λ (x : List Post). Contains x post) (sym (sent_behind s h is)) (Contains-append_left s.sent h.posts post c)

-- what is new was posted by the event
pub sent_or_posted : (s : Store) (h : Happening) → Happened s h → (post : Post) → Contains h.store.sent post → Contains s.sent post ⊎ Contains h.posts post
sent_or_posted s h is post c = Contains-append_cases s.sent h.posts post (subst (λ (x : List Post). Contains x post) (sent_behind s h is) c)

-- an event sends the message
abbrev pub WasPosted : Happening → Message → Type 0
WasPosted h message = (to : Actor) × Contains h.posts (record { to = to; message = message })

-- what was sent after an event was sent before, or by it
pub sent_cases : (s : Store) (h : Happening) (message : Message) → Happened s h → WasSent h.store message → WasSent s message ⊎ WasPosted h message
sent_cases s h message is sent =
    elim (sent_or_posted s h is (record { to = sent.0; message = message }) sent.1) as (λ _. WasSent s message ⊎ WasPosted h message) [ inl old ↦ inl (sent.0, old) | inr new ↦ inr (sent.0, new) ]

-- each message is such a one
abbrev pub Each : (Message → Type 0) → List Post → Type 0
Each P posts = (post : Post) → Contains posts post → P post.message

pub each_none : (P : Message → Type 0) → Each P []
each_none P post h = let lt = h.1 in absurd (omega arith)

pub each_more : (P : Message → Type 0) (first : Post) (rest : List Post) → P first.message → Each P rest → Each P (first ∷ rest)
each_more P first rest h k post c = elim (among first rest post c) as (λ _. P post.message) [ inl is ↦ subst (λ (x : Post). P x.message) (sym is) h | inr more ↦ k post more ]

pub each_one : (P : Message → Type 0) (only : Post) → P only.message → Each P (only ∷ [])
each_one P only h = each_more P only [] h (each_none P)

pub each_map : (P : Message → Type 0) (f : ℕ → Post) → ((d : ℕ) → P (f d).message) → (ds : List ℕ) → Each P (map f ds)
each_map P f all [] = each_none P
each_map P f all (d ∷ ds) = each_more P (f d) (map f ds) (all d) (each_map P f all ds)

pub each_to : (P : Message → Type 0) (set : DcSet) (message : Message) → P message → Each P (posts_to set message)
each_to P set message h = each_map P (post_to message) (λ d. h) (centres_of set)

-- a Lookup alone
pub each_look : (P : Message → Type 0) (tag : Tag) (key : KeyId) → P (m.Lookup tag key) → Each P (record { to = to.Directory; message = m.Lookup tag key } ∷ [])
each_look P tag key h = each_one P (record { to = to.Directory; message = m.Lookup tag key }) h

pub each_weaker : (P Q : Message → Type 0) → ((message : Message) → P message → Q message) → (posts : List Post) → Each P posts → Each Q posts
each_weaker P Q f posts each post c = f post.message (each post c)

pub each_append : (P : Message → Type 0) (one other : List Post) → Each P one → Each P other → Each P (one ++ other)
each_append P one other h k post c = elim (Contains-append_cases one other post c) as (λ _. P post.message) [ inl a ↦ h post a | inr b ↦ k post b ]

pub each_if : (P : Message → Type 0) (b : Bool) (one other : List Post) → Each P one → Each P other → Each P (if b then one else other)
each_if P true one other h k = h
each_if P false one other h k = k

pub either_is : (P : Message → Type 0) (b : Bool) (one other : Message) → P one → P other → P (if b then one else other)
either_is P true one other h k = h
either_is P false one other h k = k
