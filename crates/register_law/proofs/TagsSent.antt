-- What replicas, the directory and every event send, and what was sent after it.
use Rattle.std.proofs.Common.{◌≡◌, ℕ, List, ◌++◌, refl, sym, ap, ◌∙◌, if◌then◌else◌, Option, Some, None, IsSome, ◌⊎◌, inl, inr, [], subst, true, Contains}
use Rattle.register_law.proofs.Words.{centres_of, no_centre, DcSet, KeyId, grants, stores, Stamp, tag_of, to_proxy, Message, Tag, answers, ask_answer, gone, have, held, merge_answer, push_to, pushes_to, read_answer, store_answer, is_over, key_of, Kept, request_key, Post, Work, Store, replica_at, Happening, LiveCall, CallTook, Happened, Started, call_took, directory_took, replica_took, started, WasSent, IsPushFree, Outputs, Reply, next_tag, key_of_call, tag_of_call, learned, first_tag, proxy_at, view_at, is_strong_key, next_call, Contains-append_right, none_among}
use Rattle.wire_msg.specs.declared.actor.Actor.TheVariants as to
use Rattle.wire_msg.specs.declared.message.Message.TheVariants as m
use Rattle.replica_core.specs.Answering.{done}
use Rattle.replica_core.specs.Rule as replica
use Rattle.epoch_directory.specs.State as directory
use Rattle.epoch_directory.specs.Step as directory_step
use Rattle.register_law.proofs.Basics.{Each, each_none, each_one, each_map, each_append, each_if, either_is, sent_behind, sent_grows, sent_or_posted, is_made}
use Rattle.register_law.proofs.TagsCalls.{taken_of, LivesOn, started_opens}
use Rattle.register_law.proofs.TagsSends.{GoesOn, stays, turns, ends, SendsOne, sends_none}
use Rattle.register_law.proofs.TagsSteps.{may_ask, take_goes_on}

-- an answer of a replica
abbrev pub IsReplicaAnswer : Message → Type 0
IsReplicaAnswer (m.Have tag replica version mark value) = Unit {0}
IsReplicaAnswer (m.Yes tag replica) = Unit {0}
IsReplicaAnswer (m.Held tag replica stamp) = Unit {0}
IsReplicaAnswer (m.Gone tag replica epoch) = Unit {0}
IsReplicaAnswer _ = ⊥

pub answer_is_none : (message : Message) → IsReplicaAnswer message → request_key message ≡ None
answer_is_none (m.Have tag replica version mark value) is = refl
answer_is_none (m.Yes tag replica) is = refl
answer_is_none (m.Held tag replica stamp) is = refl
answer_is_none (m.Gone tag replica epoch) is = refl
answer_is_none _ is = absurd is

-- a replica answers a request, or passes a Push on
pub data IsReplicaPost (from message : Message) : Type 0 where
  answers_it : IsSome (request_key from) → tag_of message ≡ tag_of from → IsReplicaAnswer message → IsReplicaPost from message
  passes_on : (tag : Tag) (key : KeyId) (stamp : Stamp) (onward none : DcSet) (value : List ℕ) → from ≡ m.Push tag key stamp onward value → message ≡ m.Push tag key stamp none value → IsReplicaPost from message

abbrev IsAnswerUnder : Tag → Message → Type 0
IsAnswerUnder tag message = (tag_of message ≡ tag) × IsReplicaAnswer message

one_answer : (from message : Message) → IsSome (request_key from) → IsAnswerUnder (tag_of from) message → Each (IsReplicaPost from) (to_proxy (tag_of from) message)
one_answer from message asked is = each_one (IsReplicaPost from) (record { to = to.Proxy (tag_of from).call.proxy; message = message }) (answers_it asked is.0 is.1)

answered_by : (n : ℕ) (kept : Kept) (message : Message) → Each (IsReplicaPost message) (answers n kept message)
answered_by n kept (m.Read tag key epoch) = one_answer (m.Read tag key epoch) (read_answer n kept tag epoch) refl (either_is (IsAnswerUnder tag) (is_over kept epoch) (gone n kept tag) (have n kept tag) (refl, tt) (refl, tt))
answered_by n kept (m.Ask tag key stamp) =
    one_answer (m.Ask tag key stamp) (ask_answer n kept tag stamp) refl
    (either_is (IsAnswerUnder tag) (is_over kept stamp.epoch) (gone n kept tag) (if grants stamp kept.fence kept.version then done n tag else held n kept tag) (refl, tt) (either_is (IsAnswerUnder tag) (grants stamp kept.fence kept.version) (done n tag) (held n kept tag) (refl, tt) (refl, tt)))
answered_by n kept (m.Store tag key stamp value) =
    one_answer (m.Store tag key stamp value) (store_answer n kept tag stamp) refl
    (either_is (IsAnswerUnder tag) (is_over kept stamp.epoch) (gone n kept tag) (if stores stamp kept.fence then done n tag else held n kept tag) (refl, tt) (either_is (IsAnswerUnder tag) (stores stamp kept.fence) (done n tag) (held n kept tag) (refl, tt) (refl, tt)))
answered_by n kept (m.Repair tag key epoch stamp value) = one_answer (m.Repair tag key epoch stamp value) (merge_answer n kept tag epoch) refl (either_is (IsAnswerUnder tag) (is_over kept epoch) (gone n kept tag) (done n tag) (refl, tt) (refl, tt))
answered_by n kept (m.Freeze tag key epoch) = one_answer (m.Freeze tag key epoch) (have n kept tag) refl (refl, tt)
answered_by n kept (m.Seed tag key epoch stamp value) = one_answer (m.Seed tag key epoch stamp value) (merge_answer n kept tag epoch) refl (either_is (IsAnswerUnder tag) (is_over kept epoch) (gone n kept tag) (done n tag) (refl, tt) (refl, tt))
answered_by n kept (m.Push tag key stamp onward value) =
    let push : Message = m.Push tag key stamp onward value in
    each_if (IsReplicaPost push) (is_over kept stamp.epoch) (to_proxy tag (gone n kept tag)) (to_proxy tag (done n tag) ++ pushes_to tag key stamp value onward) (one_answer push (gone n kept tag) refl (refl, tt))
    (each_append (IsReplicaPost push) (to_proxy tag (done n tag)) (pushes_to tag key stamp value onward) (one_answer push (done n tag) refl (refl, tt))
    (each_map (IsReplicaPost push) (push_to tag key stamp value) (λ d. passes_on tag key stamp onward no_centre value refl refl) (centres_of onward)))
answered_by n kept message = each_none (IsReplicaPost message)

stepped_by : (state : replica.State) (message : Message) (o : Option KeyId) → Each (IsReplicaPost message) (replica.step_at state message o).out.posts
stepped_by state message None = each_none (IsReplicaPost message)
stepped_by state message (Some key) = answered_by state.number (replica.kept_at state key) message

pub replica_posts : (state : replica.State) (message : Message) → Each (IsReplicaPost message) (replica.step state message).out.posts
replica_posts state message = stepped_by state message (key_of message)

pub replica_tagged : (state : replica.State) (message : Message) → Each (λ (x : Message). tag_of x ≡ tag_of message) (replica.step state message).out.posts
replica_tagged state message post c = by (replica_posts state message post c)
  where
    by : IsReplicaPost message post.message → tag_of post.message ≡ tag_of message
    by (answers_it asked tag is) = tag
    by (passes_on tag key stamp onward none value from is) = ap tag_of is ∙ sym (ap tag_of from)

-- what the directory puts out for a message
pub data IsDirectoryPost (state : directory.State) (from message : Message) : Type 0 where
  tells_here : (tag : Tag) (key : KeyId) → from ≡ m.Lookup tag key → message ≡ directory_step.here_of state tag key → IsDirectoryPost state from message
  tells_switched : (tag : Tag) (key : KeyId) (closing opening : ℕ) → from ≡ m.Switch tag key closing opening → message ≡ directory_step.switched_of state tag key closing opening → IsDirectoryPost state from message

pub directory_posts : (state : directory.State) (message : Message) → Each (IsDirectoryPost state message) (directory_step.step state message).out.posts
directory_posts state (m.Lookup tag key) = each_one (IsDirectoryPost state (m.Lookup tag key)) (record { to = to.Proxy tag.call.proxy; message = directory_step.here_of state tag key }) (tells_here tag key refl refl)
directory_posts state (m.Switch tag key closing opening) =
    each_one (IsDirectoryPost state (m.Switch tag key closing opening)) (record { to = to.Proxy tag.call.proxy; message = directory_step.switched_of state tag key closing opening }) (tells_switched tag key closing opening refl refl)
directory_posts state message = each_none (IsDirectoryPost state message)

-- ---- what an event sends, and what was sent after it

-- a message that a Push passes on
pub record IsPushedOn (from message : Message) : Type 0 where
  pub same_key : request_key message ≡ request_key from
  pub push : IsPushFree from → ⊥
  pub is_push : IsPushFree message → ⊥

-- the message answers the other one, or passes it on
pub record IsAnswer (from message : Message) : Type 0 where
  pub asked : IsSome (request_key from)
  pub tag : tag_of message ≡ tag_of from
  pub kind : (request_key message ≡ None) ⊎ IsPushedOn from message

abbrev pub AreAnswers : Message → List Post → Type 0
AreAnswers from posts = (post : Post) → Contains posts post → IsAnswer from post.message

pub data PostsAre (s : Store) (h : Happening) : Type 0 where
  none : h.posts ≡ [] → PostsAre s h
  answered : (from : Message) → WasSent s from → AreAnswers from h.posts → PostsAre s h
  of_start : (p : ℕ) (key : KeyId) (work : Work) (st : Started s p key work h) → h.posts ≡ st.taken.out.posts → PostsAre s h
  of_call : (p : ℕ) (message : Message) (call : LiveCall) → CallTook s p message call h → h.posts ≡ (taken_of s p message call).out.posts → PostsAre s h

pub replica_answers : (state : replica.State) (message : Message) → AreAnswers message (replica.step state message).out.posts
replica_answers state message post c = by (replica_posts state message post c)
  where
    by : IsReplicaPost message post.message → IsAnswer message post.message
    by (answers_it asked tag is) = record { asked = asked; tag = tag; kind = inl (answer_is_none post.message is) }
    by (passes_on tag key stamp onward empty value from is) = record {
      asked = subst (λ (x : Message). IsSome (request_key x)) (sym from) refl;
      tag = ap tag_of is ∙ sym (ap tag_of from);
      kind = inr (record { same_key = ap request_key is ∙ sym (ap request_key from); push = λ f. subst IsPushFree from f; is_push = λ f. subst IsPushFree is f });
    }

pub directory_answers : (state : directory.State) (message : Message) → AreAnswers message (directory_step.step state message).out.posts
directory_answers state message post c = by (directory_posts state message post c)
  where
    by : IsDirectoryPost state message post.message → IsAnswer message post.message
    by (tells_here tag key from is) = record { asked = subst (λ (x : Message). IsSome (request_key x)) (sym from) refl; tag = ap tag_of is ∙ sym (ap tag_of from); kind = inl (ap request_key is) }
    by (tells_switched tag key closing opening from is) = record { asked = subst (λ (x : Message). IsSome (request_key x)) (sym from) refl; tag = ap tag_of is ∙ sym (ap tag_of from); kind = inl (ap request_key is) }

-- what any event sends
unfoldable pub posts_are : (s : Store) (h : Happening) → Happened s h → PostsAre s h
posts_are s h (started p key work st) = of_start p key work st (ap (λ (x : Happening). x.posts) st.is)
posts_are s h (replica_took d message taken is) = answered message (to.Replica d, taken.sent) (subst (λ (x : Happening). AreAnswers message x.posts) (sym is) (replica_answers (replica_at s d).state message))
posts_are s h (directory_took message sent is) = answered message (to.Directory, sent) (subst (λ (x : Happening). AreAnswers message x.posts) (sym is) (directory_answers s.directory message))
posts_are s h (call_took p message call took) = of_call p message call took (ap (λ (x : Happening). x.posts) took.is)
posts_are s h o = none (ap (λ (x : Happening). x.posts) (is_made s h o))

-- ---- what was sent after an event was sent before it, answers what was, or is a request of a call

pub goes_sends : (May : Stamp → Type 0) (tag : Tag) (key : KeyId) (call : LiveCall) (out : Outputs) → GoesOn May tag key call out → SendsOne May (next_tag tag) key out.posts
goes_sends May tag key call out (stays k t nothing) = subst (λ (x : List Post). SendsOne May (next_tag tag) key x) (sym nothing) (sends_none May (next_tag tag) key)
goes_sends May tag key call out (turns k t sends) = sends
goes_sends May tag key call out (ends k t some sends) = sends

-- what a live call does with a message
pub goes_on_at : (s : Store) (p : ℕ) (message : Message) (call : LiveCall) → GoesOn (may_ask call) (tag_of_call call) (key_of_call call) (taken_of s p message call).state (taken_of s p message call).out
goes_on_at s p message call = take_goes_on call message (view_at (learned (proxy_at s p) message).views (key_of_call call)) (learned (proxy_at s p) message).seen

pub call_sends : (s : Store) (p : ℕ) (message : Message) (call : LiveCall) → SendsOne (may_ask call) (next_tag (tag_of_call call)) (key_of_call call) (taken_of s p message call).out.posts
call_sends s p message call = goes_sends (may_ask call) (tag_of_call call) (key_of_call call) (taken_of s p message call).state (taken_of s p message call).out (goes_on_at s p message call)

-- a call that sends, and lives on, is in its next phase
sends_turns : (May : Stamp → Type 0) (tag : Tag) (key : KeyId) (call : LiveCall) (out : Outputs) (post : Post) → GoesOn May tag key call out → out.end ≡ None → Contains out.posts post → tag_of_call call ≡ next_tag tag
sends_turns May tag key call out post (stays k t nothing) no_end c = absurd (none_among post (subst (λ (x : List Post). Contains x post) nothing c))
sends_turns May tag key call out post (turns k t sends) no_end c = t
sends_turns May tag key call out post (ends k t some sends) no_end c = absurd (subst_none out.end some no_end)
  where
    subst_none : (o : Option Reply) → IsSome o → o ≡ None → ⊥
    subst_none None some e = absurd (cc)
    subst_none (Some x) some e = absurd (cc)

pub sender_turns : (s : Store) (p : ℕ) (message : Message) (old call : LiveCall) (post : Post) → LivesOn s p message old call → Contains (taken_of s p message old).out.posts post → tag_of_call call ≡ next_tag (tag_of_call old)
sender_turns s p message old call post on c = ap tag_of_call on.is ∙ sends_turns (may_ask old) (tag_of_call old) (key_of_call old) (taken_of s p message old).state (taken_of s p message old).out post (goes_on_at s p message old) on.no_end c

-- a message that an event sends
pub data Posted (s : Store) (h : Happening) (message : Message) : Type 0 where
  replies : (from : Message) → WasSent s from → IsAnswer from message → Posted s h message
  opens : (p : ℕ) (key : KeyId) (work : Work) (st : Started s p key work h) → tag_of message ≡ first_tag (next_call s p) st.handle → request_key message ≡ Some (view_at (proxy_at s p).views key).key → (is_strong_key s key ≡ true → IsPushFree message) → Posted s h message
  asks : (p : ℕ) (taken : Message) (call : LiveCall) (post : Post) → CallTook s p taken call h → tag_of message ≡ next_tag (tag_of_call call) → request_key message ≡ Some (key_of_call call) → IsPushFree message → Contains (taken_of s p taken call).out.posts post → Posted s h message

moved : (posts others : List Post) (post : Post) → posts ≡ others → Contains posts post → Contains others post
moved posts others post e c = subst (λ (x : List Post). Contains x post) e c

from_posts : (s : Store) (h : Happening) (post : Post) → PostsAre s h → Contains h.posts post → Posted s h post.message
from_posts s h post (none e) c = absurd (none_among post (moved h.posts [] post e c))
from_posts s h post (answered from sent all) c = replies from sent (all post c)
from_posts s h post (of_start p key work st e) c =
    let there = moved h.posts st.taken.out.posts post e c in
    let first = started_opens s p key work h st in
    let two = first.requests post there in
    opens p key work st two.0 two.1 (λ strong. subst IsPushFree (sym ((first.one strong).copies post there)) (first.one strong).push_free)
from_posts s h post (of_call p message call took e) c =
    let there = moved h.posts (taken_of s p message call).out.posts post e c in
    let sends = call_sends s p message call in
    let is : post.message ≡ sends.message = sends.copies post there in
    asks p message call post took (ap tag_of is ∙ sends.tagged) (ap request_key is ∙ sends.at_key) (subst IsPushFree (sym is) sends.push_free) there

pub posted : (s : Store) (h : Happening) → Happened s h → (post : Post) → Contains h.posts post → Posted s h post.message
posted s h is post c = from_posts s h post (posts_are s h is) c

pub sent_after : (s : Store) (h : Happening) → Happened s h → (message : Message) → WasSent h.store message → WasSent s message ⊎ Posted s h message
sent_after s h is message sent =
    elim (sent_or_posted s h is (record { to = sent.0; message = message }) sent.1) as (λ _. WasSent s message ⊎ Posted s h message) [
      | inl old ↦ inl (sent.0, old)
      | inr new ↦ inr (posted s h is (record { to = sent.0; message = message }) new)
    ]

pub was_sent_stays : (s : Store) (h : Happening) → Happened s h → (message : Message) → WasSent s message → WasSent h.store message
was_sent_stays s h is message sent = (sent.0, sent_grows s h is (record { to = sent.0; message = message }) sent.1)

-- what an event sends was sent after it
pub posted_there : (s : Store) (h : Happening) → Happened s h → (post : Post) → Contains h.posts post → Contains h.store.sent post
posted_there s h is post c = subst (λ (x : List Post). Contains x post) (sym (sent_behind s h is)) (Contains-append_right s.sent h.posts post c)
